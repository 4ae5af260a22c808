-- A number without a sign.
use Rattle.std.proofs.Common.{◌≡◌, ◌≢◌, ℕ, List, [], ◌∷◌, cond, None, refl, sym, ap, ◌∙◌, lit<}
use Rattle.std.specs.Prelude.{◌==◌, option_map}
use Rattle.std.proofs.lemmas.Str.Pattern.{strip_prefix_char}
use Rattle.mi_regval.specs.Numbers.{number_of, negative, int_of}
use Rattle.mi_regval.proofs.MarkLemmas.{other_front}
use Rattle.mi_regval.proofs.number.read_int.Goals as goal

unsigned : (text : List ℕ) → ((rest : List ℕ) → text ≢ 45 ∷ rest) → ((rest : List ℕ) → text ≢ 43 ∷ rest) → number_of 4294967295 text ≡ int_of text
unsigned [] minus plus = refl
unsigned (b ∷ bs) minus plus =
    sym (ap (λ t. cond t (option_map negative (number_of 2147483648 bs)) (cond (b == 43) (number_of 4294967295 bs) (number_of 4294967295 (b ∷ bs)))) (other_front 45 b bs minus)
    ∙ ap (λ t. cond t (number_of 4294967295 bs) (number_of 4294967295 (b ∷ bs))) (other_front 43 b bs plus))

pub returns-in-None : goal.returns-in-None
returns-in-None c =
    c.number-in-None.ensures
    ∙ unsigned c.args.text.now (strip_prefix_char 45 c.args.text.now None c.in_default.ensures.cases (lit< tt)) (strip_prefix_char 43 c.args.text.now None c.in-None.ensures.cases (lit< tt))
