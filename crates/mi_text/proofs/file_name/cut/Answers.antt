-- A text without the byte is both of its halves.
use Rattle.std.proofs.Common.{◌≡◌, ◌+◌, ◌==◌, ◌||◌, None, Bool, true, false, cond, not, List, [], ◌∷◌, length, refl, arith}
use Rattle.std.specs.List.{list_any, position_or_len}
use Rattle.std.proofs.lemmas.Str.Pattern.{split_once_first}
use Rattle.mi_text.proofs.file_name.cut.Goals as goal

none_stands : {X : Type 0} (p : X → Bool) (xs : List X) → position_or_len p xs ≡ length xs → list_any p xs ≡ false
none_stands p [] e = refl
none_stands p (x ∷ xs) e =
    elim (p x) as (λ b. cond (not b) (1 + position_or_len p xs) 0 ≡ length (x ∷ xs) → (b || list_any p xs) ≡ false) [
      | true ↦ λ h. absurd (let z : ⊥ = omega arith in z)
      | false ↦ λ h. let rest : position_or_len p xs ≡ length xs = omega arith in none_stands p xs rest
    ] e

pub returns-in-None-clause-all_behind : goal.returns-in-None-clause-all_behind
returns-in-None-clause-all_behind c =
    let none : list_any (λ b. b == c.args.mark) c.args.text.now ≡ false = none_stands (λ b. b == c.args.mark) c.args.text.now (split_once_first c.args.mark c.args.text.now None c.in-None.ensures.cases c.requires) in
    rw none refl
