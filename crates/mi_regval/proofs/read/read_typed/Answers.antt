-- Behind `#` stands an integer where no other mark does.
use Rattle.std.proofs.Common.{◌≡◌, ◌≢◌, ℕ, List, [], ◌∷◌, cond, Ok, None, refl, sym, ap, ◌∙◌, lit<}
use Rattle.std.specs.Prelude.{◌==◌}
use Rattle.std.proofs.lemmas.Str.Pattern.{strip_prefix_char}
use Rattle.hex.specs.Hex.{decode_of}
use Rattle.mi_base.specs.declared.entry.RegValue.TheVariants as value
use Rattle.mi_regval.specs.Values.{typed_value, int_value, binary_value}
use Rattle.mi_regval.specs.Numbers.{int_of}
use Rattle.mi_regval.proofs.MarkLemmas.{other_front}
use Rattle.mi_regval.proofs.read.read_typed.Goals as goal

typed : (text : List ℕ) → ((rest : List ℕ) → text ≢ 35 ∷ rest) → ((rest : List ℕ) → text ≢ 37 ∷ rest) → ((rest : List ℕ) → text ≢ 120 ∷ rest) → typed_value text ≡ int_value (int_of text)
typed [] hash percent x = refl
typed (b ∷ bs) hash percent x =
    ap (λ t. cond t (Ok (value.Text (b ∷ bs))) (cond (b == 37) (Ok (value.Expand bs)) (cond (b == 120) (binary_value (decode_of bs)) (int_value (int_of (b ∷ bs)))))) (other_front 35 b bs hash)
    ∙ ap (λ t. cond t (Ok (value.Expand bs)) (cond (b == 120) (binary_value (decode_of bs)) (int_value (int_of (b ∷ bs))))) (other_front 37 b bs percent)
    ∙ ap (λ t. cond t (binary_value (decode_of bs)) (int_value (int_of (b ∷ bs)))) (other_front 120 b bs x)

pub returns-in-None : goal.returns-in-None
returns-in-None c =
    typed c.args.rest.now
    (strip_prefix_char 35 c.args.rest.now None c.if-starts_with.ensures.cases (lit< tt))
    (strip_prefix_char 37 c.args.rest.now None c.in_default.ensures.cases (lit< tt))
    (strip_prefix_char 120 c.args.rest.now None c.in_default-strip_prefix.ensures.cases (lit< tt))
    ∙ ap int_value (sym c.in-None.ensures)
