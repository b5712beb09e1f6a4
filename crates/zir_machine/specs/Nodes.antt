-- What a tree of nodes means: the component that it runs, and what that still does.
use Rattle.std.specs.Prelude.{List, Bool, true, false, refl}
use Rattle.zir_tree.specs.declared.place.Place.{Place}
use Rattle.zir_bit_tree.specs.declared.tree.Comp.{Comp, Take as TakeComp, Emit as EmitComp, Return as ReturnComp}
use Rattle.zir_bit_meaning.specs.Trace.{State}
use Rattle.zir_bit_laws.specs.Process.{Proc}
use Rattle.zir_machine.specs.declared.progress.Focus.{Focus}
use Rattle.zir_machine.specs.declared.node.Node.{Node, fold-Node}
use Rattle.zir_machine.specs.declared.node.Node.TheOpen.{Node-F, Part-F, Link-F, Loop-F}
use Rattle.zir_machine.specs.declared.node.Part.{Part}
use Rattle.zir_machine.specs.declared.node.Link.{Link}
use Rattle.zir_machine.specs.declared.progress.Span.{Span}
use Rattle.zir_machine.specs.declared.node.Loop.{Loop}
use Rattle.zir_machine.specs.Understood.{is_begin, leaf, Meant, Held, Looped, Linked, row_in, row_sound, row_awaits, row_comp, loop_does, loop_comp, link_does, link_sound, link_awaits, link_comp}
use Rattle.zir_machine.specs.Understanding.{begin_ready, take_awaiting, never_ready, never_awaiting, row_awaits_ready, row_awaiting, loop_awaiting, link_awaits_ready, link_awaiting, leaf_late, row_spent, row_spent_sound, row_given_sound, row_giving, row_late, loop_spent, loop_giving, loop_late, link_giving, link_late}

-- a take, which needs an element at its beginning
abbrev pub take_of : Place → Meant
take_of p = record { what = TakeComp p; does = leaf (TakeComp p); sound = λ f s. true; awaits = is_begin; awaits_ready = begin_ready; awaiting = take_awaiting p; spent = λ s. refl; spent_sound = λ s. refl; given_sound = λ v s. refl; giving = λ v s. refl; late = leaf_late (TakeComp p) }

-- an emit or a return, which need none
abbrev pub leaf_of : Comp → Meant
leaf_of c = record { what = c; does = leaf c; sound = λ f s. true; awaits = λ f. false; awaits_ready = never_ready; awaiting = never_awaiting c; spent = λ s. refl; spent_sound = λ s. refl; given_sound = λ v s. refl; giving = λ v s. refl; late = leaf_late c }

-- a block, at the part that runs
abbrev pub row_of : List Held → Span → Meant
row_of hs span = record { what = row_comp hs span.place; does = row_in hs span.at span.base; sound = row_sound hs span.at; awaits = row_awaits hs span.at; awaits_ready = row_awaits_ready hs span.at; awaiting = row_awaiting hs span.at span.base; spent = row_spent hs span.at span.base; spent_sound = row_spent_sound hs span.at; given_sound = row_given_sound hs span.at; giving = row_giving hs span.at span.base; late = row_late hs span.at span.base }

-- a repeat, in its body
abbrev pub loop_of : Looped → Meant
loop_of l = record { what = loop_comp l; does = loop_does l; sound = l.body.sound; awaits = l.body.awaits; awaits_ready = l.body.awaits_ready; awaiting = loop_awaiting l; spent = loop_spent l; spent_sound = l.body.spent_sound; given_sound = l.body.given_sound; giving = loop_giving l; late = loop_late l }

-- a composition, by its two sides
abbrev pub link_of : Linked → Meant
link_of l = record { what = link_comp l; does = link_does l; sound = link_sound l; awaits = link_awaits l; awaits_ready = link_awaits_ready l; awaiting = link_awaiting l; spent = λ s. refl; spent_sound = λ s. refl; given_sound = λ v s. refl; giving = link_giving l; late = link_late l }

-- one level, with each node inside already understood
abbrev pub one_level : Node-F Meant Linked Looped Held → Meant
one_level (Node-F.Take p) = take_of p
one_level (Node-F.Emit e p) = leaf_of (EmitComp e p)
one_level (Node-F.Return e p) = leaf_of (ReturnComp e p)
one_level (Node-F.Block v span) = row_of v.items span
one_level (Node-F.Repeat b) = loop_of b.value
one_level (Node-F.Pipe b) = link_of b.value

-- a part, whose node is understood
abbrev pub one_part : Part-F Meant Linked Looped Held → Held
one_part p = record { bound = p.bound; meant = p.node }

-- a loop, whose body is understood
abbrev pub one_loop : Loop-F Meant Linked Looped Held → Looped
one_loop l = record { body = l.body; place = l.place }

-- two sides that are understood
abbrev pub one_link : Link-F Meant Linked Looped Held → Linked
one_link l = record { left = l.left; right = l.right; left_progress = l.left_progress; left_store = l.left_store.items; right_progress = l.right_progress; base = l.base; depth = l.depth; waits = l.waits; place = l.place }

-- what a node means
abbrev pub meant : Node → Meant
meant = fold-Node Meant Linked Looped Held one_level one_link one_loop one_part

-- what a part means
abbrev pub held : Part → Held
held p = record { bound = p.bound; meant = meant p.node }

-- what a loop means
abbrev pub looped : Loop → Looped
looped l = record { body = meant l.body; place = l.place }

-- what two sides mean
abbrev pub linked : Link → Linked
linked l = record { left = meant l.left; right = meant l.right; left_progress = l.left_progress; left_store = l.left_store.items; right_progress = l.right_progress; base = l.base; depth = l.depth; waits = l.waits; place = l.place }

-- the component that a node runs
abbrev pub comp_of : Node → Comp
comp_of n = (meant n).what

-- what a node still does
abbrev pub proc_in : Node → Focus → State → Proc
proc_in n = (meant n).does

-- whether a node stands where it needs an element
abbrev pub is_waiting : Node → Focus → Bool
is_waiting n = (meant n).awaits

-- whether the counts of a node fit together
abbrev pub is_sound : Node → Focus → State → Bool
is_sound n = (meant n).sound
