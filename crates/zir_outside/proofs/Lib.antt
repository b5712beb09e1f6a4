pub mod AppendsLemmas
pub mod StockLemmas
pub mod TextLemmas
