use Rattle.std.proofs.Common.{ℕ, ℤ, List, ◌++◌, [], true, ap, sym, ◌∙◌, ◌≡◌}
use Rattle.std.proofs.lemmas.List.{append-nil}
use Rattle.std.proofs.lemmas.Result.{on_ok_weaker, on_err_weaker}
use Rattle.zir_tree.specs.declared.format.Format.TheVariants.{Binary, Text}
use Rattle.zir_meaning.specs.Elements.{spell_numbers}
use Rattle.zir_meaning.specs.Samples.{spell_bits}
use Rattle.zir_samples.specs.Writing.{Holds, Kept}
use Rattle.zir_samples.proofs.Writing.{ending, finished-rest}
use Rattle.zir_samples.proofs.writer.Writer.finish.Goals as goal

-- what a writer of bits puts at the end
binary-rest : (w : Kept) (kept : Kept) (numbers : List ℤ) (given : List ℕ) → w ≡ kept → w.format ≡ Binary → Holds kept numbers given → spell_numbers kept.format kept.base true (numbers ++ []) ≡ given ++ spell_bits true w.bits
binary-rest w kept numbers given e f h =
    finished-rest kept numbers given h
    ∙ ap (λ (k : Kept). given ++ spell_bits true (k.bits ++ ending k.format k.some)) (sym e)
    ∙ ap (λ format. given ++ spell_bits true (w.bits ++ ending format w.some)) f
    ∙ ap (λ bits. given ++ spell_bits true bits) (append-nil w.bits)

-- what a writer of a text puts at the end
text-rest : (w : Kept) (kept : Kept) (numbers : List ℤ) (given : List ℕ) → w ≡ kept → w.format ≡ Text → Holds kept numbers given → spell_numbers kept.format kept.base true (numbers ++ []) ≡ given ++ spell_bits true (w.bits ++ ending Text w.some)
text-rest w kept numbers given e f h =
    finished-rest kept numbers given h
    ∙ ap (λ (k : Kept). given ++ spell_bits true (k.bits ++ ending k.format k.some)) (sym e)
    ∙ ap (λ format. given ++ spell_bits true (w.bits ++ ending format w.some)) f

pub returns-in-Binary : goal.returns-in-Binary
returns-in-Binary g c = record {
  ok = on_ok_weaker c.put_rest.result (λ grew. record { rest = spell_bits true c.self.inside.output; grew = grew; spelled = λ numbers given h. binary-rest _ c.args.self.now numbers given c.self.view_is c.in-Binary.is h }) c.put_rest.ensures.ok;
  failed = on_err_weaker c.put_rest.result (λ grew. record { rest = spell_bits true c.self.inside.output; grew = grew; spelled = λ numbers given h. binary-rest _ c.args.self.now numbers given c.self.view_is c.in-Binary.is h }) c.put_rest.ensures.failed;
  untold = c.put_rest.ensures.untold;
  cause = c.put_rest.ensures.cause;
}

pub returns-in-Text : goal.returns-in-Text
returns-in-Text g c = record {
  ok = on_ok_weaker c.finish_text.result (λ grew. record { rest = spell_bits true (c.self.inside.output ++ ending Text c.self.inside.some); grew = grew; spelled = λ numbers given h. text-rest _ c.args.self.now numbers given c.self.view_is c.in-Text.is h }) c.finish_text.ensures.ok;
  failed = on_err_weaker c.finish_text.result (λ grew. record { rest = spell_bits true (c.self.inside.output ++ ending Text c.self.inside.some); grew = grew; spelled = λ numbers given h. text-rest _ c.args.self.now numbers given c.self.view_is c.in-Text.is h }) c.finish_text.ensures.failed;
  untold = c.finish_text.ensures.untold;
  cause = c.finish_text.ensures.cause;
}
