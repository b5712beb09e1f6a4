-- The front of a word is the keyword or the name that its longest front spells.
use Rattle.zir_lex.proofs.Readers.{keyword_front, name_front}
use Rattle.zir_lex.proofs.words.read_word.Goals as goal

pub returns-in-Some : goal.returns-in-Some
returns-in-Some c = keyword_front c.args.text.now c.word_len-len.result c.in-Some.keyword c.requires.some c.requires.letter c.word_len-len.ensures.value c.in-Some.ensures

pub returns-in_ok-name-in-None : goal.returns-in_ok-name-in-None
returns-in_ok-name-in-None c = name_front c.args.text.now c.word_len-len.result c.in_ok-name-in-None.name c.requires.some c.requires.letter c.word_len-len.ensures.value c.in_ok-name-in-None.ensures c.in-None.ensures
