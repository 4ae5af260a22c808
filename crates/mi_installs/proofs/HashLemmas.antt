-- The hash: the rules on versions look at it in one case alone, and its bytes are those of four numbers.
use Rattle.std.proofs.Common.{◌≡◌, ℕ, Bool, true, false, not, ◌||◌, ◌&&◌, List, [], ◌∷◌, length, get_or, Option, Some, None, refl, sym, ap, ◌∙◌, arith, inl, inr}
use Rattle.std.specs.Prelude.{is_none, nat_le, nat_lt}
use Rattle.std.specs.declared.cmp.Ordering.{Ordering}
use Rattle.std.specs.declared.cmp.Ordering.TheVariants.{Less, Equal, Greater}
use Rattle.std.proofs.lemmas.Bool.{cases_Bool}
use Rattle.std.proofs.lemmas.Bool.Decides.{nat_tests}
use Rattle.mi_text.specs.declared.version.Version.{Version}
use Rattle.mi_text.specs.Version.{version_cmp}
use Rattle.mi_base.specs.declared.entry.FileHead.{FileHead}
use Rattle.mi_fver.specs.declared.mode.Mode.{Mode}
use Rattle.mi_fver.specs.declared.new_file.NewFile.{NewFile}
use Rattle.mi_fver.specs.declared.rules.Answers.{Answers}
use Rattle.mi_fver.specs.Rules.{compared, of_versions, answers_of, by_languages, replaces_of}
use Rattle.mi_text.proofs.ByteLemmas.{both}
use Rattle.mi_installs.specs.Deciding.{looks_at_hash, IgnoresHash}

-- what the letters make of what o, e and d say
abbrev by_letters : Bool → Bool → Bool → Bool → Answers → Bool
by_letters a o e d says = a || (o && says.o) || (e && says.e) || (d && says.d)

-- the letters leave it to the hash
abbrev leave_it : Bool → Bool → Bool → Bool → Bool
leave_it a o e d = not a && not e && (o || d)

module _ (languages h k : Bool) where
  same_versions : (a o e d : Bool) (cmp : Ordering) → by_letters a o e d (answers_of (of_versions cmp) languages h) ≡ by_letters a o e d (answers_of (of_versions cmp) languages k)
  same_versions a o e d Less = refl
  same_versions a o e d Equal = refl
  same_versions a o e d Greater = refl

  -- neither has a version, and the old file wasn't changed
  by_hash : (a o e d : Bool) → leave_it a o e d ≡ false → by_letters a o e d (answers_of (compared None None false) languages h) ≡ by_letters a o e d (answers_of (compared None None false) languages k)
  by_hash true o e d is = refl
  by_hash false true true d is = elim (not h) as (λ x. ((x || true) || (d && x)) ≡ ((not k || true) || (d && not k))) [
    | true ↦ elim (not k) as (λ y. true ≡ ((y || true) || (d && y))) [ true ↦ refl | false ↦ refl ]
    | false ↦ elim (not k) as (λ y. true ≡ ((y || true) || (d && y))) [ true ↦ refl | false ↦ refl ]
  ]
  by_hash false false true d is = refl
  by_hash false true false d is = cc
  by_hash false false false true is = cc
  by_hash false false false false is = refl

  -- in every case in which they don't look
  by_case : (old new : Option Version) (changed : Bool) (a o e d : Bool) → (leave_it a o e d && is_none old && is_none new && not changed) ≡ false
      → by_letters a o e d (answers_of (compared old new changed) languages h) ≡ by_letters a o e d (answers_of (compared old new changed) languages k)
  by_case (Some v) (Some w) changed a o e d is = same_versions a o e d (version_cmp w v)
  by_case None (Some w) changed a o e d is = refl
  by_case (Some v) None changed a o e d is = refl
  by_case None None true a o e d is = refl
  by_case None None false a o e d is = by_hash a o e d (and_trues (leave_it a o e d) is)
    where
      and_trues : (b : Bool) → (b && true && true && true) ≡ false → b ≡ false
      and_trues true is = cc
      and_trues false is = refl

not_changed : (created modified : ℕ) → not (nat_lt created modified) ≡ nat_le modified created
not_changed created modified = elim (cases_Bool (nat_lt created modified)) [
  | inl on ↦ let off : nat_le modified created ≡ false = grind (arith, nat_tests, on) in ap not on ∙ sym off
  | inr off ↦ let on : nat_le modified created ≡ true = grind (arith, nat_tests, off) in ap not off ∙ sym on
]

-- where the rules don't look at the hash, it is the same to them
pub unlooked : (mode : Mode) (old : FileHead) (new : NewFile) (product : ℕ) (h k : Bool) → looks_at_hash mode old new ≡ false → replaces_of mode (Some old) new product h ≡ replaces_of mode (Some old) new product k
unlooked mode old new product h k is =
    by_case (by_languages old.languages new.languages product) h k old.version new.version (nat_lt old.created old.modified) mode.a mode.o mode.e mode.d
    (ap (λ (b : Bool). leave_it mode.a mode.o mode.e mode.d && is_none old.version && is_none new.version && b) (not_changed old.created old.modified) ∙ is)

module _ (languages : Bool) where
  -- neither has a version, the old file wasn't changed, and the letters leave it to the hash
  by_letter : (a o e d : Bool) → leave_it a o e d ≡ true → by_letters a o e d (answers_of (compared None None false) languages true) ≡ by_letters a o e d (answers_of (compared None None false) languages false) → ⊥
  by_letter true o e d is same = absurd cc
  by_letter false o true d is same = absurd cc
  by_letter false true false true is same = absurd cc
  by_letter false true false false is same = absurd cc
  by_letter false false false true is same = absurd cc
  by_letter false false false false is same = absurd cc

  -- in the one case in which they look
  in_case : (old new : Option Version) (changed a o e d : Bool) → (leave_it a o e d && is_none old && is_none new && not changed) ≡ true
      → by_letters a o e d (answers_of (compared old new changed) languages true) ≡ by_letters a o e d (answers_of (compared old new changed) languages false) → ⊥
  in_case old new true a o e d is same = let off : false ≡ true = (both _ _ is).1 in absurd cc
  in_case old (Some w) false a o e d is same = let off : false ≡ true = (both _ _ (both _ _ is).0).1 in absurd cc
  in_case (Some v) None false a o e d is same = let off : false ≡ true = (both _ _ (both _ _ (both _ _ is).0).0).1 in absurd cc
  in_case None None false a o e d is same = by_letter a o e d (both _ _ (both _ _ (both _ _ is).0).0).0 same

-- where the rules look at the hash, it isn't the same to them
pub looked : (mode : Mode) (old : FileHead) (new : NewFile) → looks_at_hash mode old new ≡ true → IgnoresHash mode old new → ⊥
looked mode old new is ignores =
    in_case (by_languages old.languages new.languages 0) old.version new.version (nat_lt old.created old.modified) mode.a mode.o mode.e mode.d
    (ap (λ (b : Bool). leave_it mode.a mode.o mode.e mode.d && is_none old.version && is_none new.version && b) (not_changed old.created old.modified) ∙ is)
    (ignores 0)

-- a list of four
pub four : (xs : List ℕ) → length xs ≡ 4 → xs ≡ get_or xs 0 0 ∷ get_or xs 1 0 ∷ get_or xs 2 0 ∷ get_or xs 3 0 ∷ []
four [] e = absurd (omega arith)
four (a ∷ []) e = absurd (omega arith)
four (a ∷ b ∷ []) e = absurd (omega arith)
four (a ∷ b ∷ c ∷ []) e = absurd (omega arith)
four (a ∷ b ∷ c ∷ d ∷ []) e = refl
four (a ∷ b ∷ c ∷ d ∷ x ∷ xs) e = absurd (omega arith)
