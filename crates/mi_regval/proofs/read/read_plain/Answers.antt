-- A text without `#` at its front is itself.
use Rattle.std.proofs.Common.{◌≡◌, ◌≢◌, ℕ, List, [], ◌∷◌, cond, Ok, None, refl, sym, ap, ◌∙◌, lit<}
use Rattle.std.proofs.lemmas.Str.Pattern.{strip_prefix_char}
use Rattle.mi_base.specs.declared.entry.RegValue.TheVariants as value
use Rattle.mi_regval.specs.Values.{typed_value, plain_value}
use Rattle.mi_regval.proofs.MarkLemmas.{other_front}
use Rattle.mi_regval.proofs.read.read_plain.Goals as goal

plain : (text : List ℕ) → ((rest : List ℕ) → text ≢ 35 ∷ rest) → plain_value text ≡ Ok (value.Text text)
plain [] h = refl
plain (b ∷ bs) h = ap (λ t. cond t (typed_value bs) (Ok (value.Text (b ∷ bs)))) (other_front 35 b bs h)

pub returns-in_ok-copy_of-in-None : goal.returns-in_ok-copy_of-in-None
returns-in_ok-copy_of-in-None c =
    plain c.args.text.now (strip_prefix_char 35 c.args.text.now None c.in-None.ensures.cases (lit< tt)) ∙ ap (λ (t : List ℕ). Ok (value.Text t)) (sym c.in_ok-copy_of-in-None.ensures)
