use Rattle.std.proofs.Common.{◌≡◌, drop}
use Rattle.zir_tree.specs.declared.comp.Comp.TheBlock.{hidden-the_row-Member-1}
use Rattle.zir_compile.specs.Names.{scope_of}
use Rattle.zir_compile.specs.Stated.{Moved}
use Rattle.zir_flow.specs.Kinds.{Setting}
use Rattle.zir_flatten.specs.Callable.{Sets}
use Rattle.zir_flatten.specs.Members.{whole_of, all_of}
use Rattle.zir_flatten.proofs.places.Places.+flowing.Given as goal

-- the whole block is what is made and the members from here on
abbrev pub invariant-members-loop-m : goal.invariant-members-loop-m
invariant-members-loop-m l =
    Moved l.fn.names l.names × ((st : Setting) → Sets l.self st →
    whole_of st (scope_of l.names) l.input l.fn.d l.row (hidden-the_row-Member-1 (drop l.m-index l.ms)) ≡ all_of st (scope_of l.fn.names) l.input l.fn.d (hidden-the_row-Member-1 l.ms))
