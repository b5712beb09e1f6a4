-- The shape of the room that a layout stands for.
use Rattle.zir_flow.specs.Kinds.{Shape, Flat, Split}
use Rattle.zir_stage.specs.declared.layout.Layout.{Layout, Flat as NoSides, Split'}

-- the shape of a layout
abbrev pub shape_by : Layout → Shape
shape_by NoSides = Flat
shape_by (Split' p left q right) = Split (shape_by left) (shape_by right)
