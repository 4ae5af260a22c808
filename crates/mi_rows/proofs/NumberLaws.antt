-- The integer that a field spells fits its type.
use Rattle.std.proofs.Common.{◌≡◌, ℕ, ℤ, pos, negsuc, zero, suc, ◌≤◌, List, Some, sym, ap, subst, ◌∙◌, ⊎_elim, arith}
use Rattle.std.specs.Prelude.{neg_ℤ, unwrap_or}
use Rattle.std.specs.Int.{w32, w64}
use mir.Val.{SFits, to_z, of_z}
use Rattle.std.proofs.lemmas.Int.{to_z-of_z}
use Rattle.mi_idt.specs.Fields.{integer_within}
use Rattle.mi_idt.specs.Spells.{SpellsInteger}
use Rattle.mi_idt.proofs.Numbers.{integer_is}
use Rattle.mi_rows.specs.Fields.{number_of}

spelled_fits : (bs : List ℕ) (z : ℤ) → SpellsInteger 2147483647 bs z → SFits w32 z
spelled_fits bs z spells = ⊎_elim
    (λ s. subst (SFits w32) (sym s.3) (let fits : SFits w32 (pos s.0) = omega arith in fits))
    (λ s. subst (SFits w32) (sym s.5) (negative s.1 s.4))
    spells
  where
    negative : (n : ℕ) → n ≤ 2147483647 → SFits w32 (neg_ℤ (pos n))
    negative zero le = omega arith
    negative (suc n) le = omega arith

wider : (z : ℤ) → SFits w32 z → SFits w64 z
wider (pos n) fits = omega (arith, fits)
wider (negsuc n) fits = omega (arith, fits)

module _ (bs : List ℕ) (z : ℤ) (is : integer_within 2147483647 bs ≡ Some z) where
  pub integer_fits : SFits w32 (to_z w64 (of_z w64 z))
  integer_fits = let fits = spelled_fits bs z (integer_is 2147483647 bs z is) in subst (SFits w32) (sym (to_z-of_z w64 z (wider z fits))) fits

  -- an integer that is cast as it is passed
  pub integer_passed : to_z w32 (of_z w32 (to_z w64 (of_z w64 z))) ≡ number_of bs
  integer_passed =
      let fits = spelled_fits bs z (integer_is 2147483647 bs z is) in
      ap (λ (y : ℤ). to_z w32 (of_z w32 y)) (to_z-of_z w64 z (wider z fits)) ∙ to_z-of_z w32 z fits ∙ sym (ap (λ o. unwrap_or o (pos 0)) is)
