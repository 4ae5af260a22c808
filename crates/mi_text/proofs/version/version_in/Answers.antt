-- A fifth number is one too many.
use Rattle.std.proofs.Common.{◌≡◌, ℕ, suc, false, Bor, subst, List, [], ◌∷◌, length, Option, Some, None, refl, ap, sym, ◌∙◌, arith}
use Rattle.std.specs.Prelude.{nat_le, ◌==◌, option_map, option_and_then, unwrap_or}
use Rattle.std.specs.Option.{option_copied}
use Rattle.std.proofs.lemmas.Bool.Decides.{nat_tests}
use Rattle.std.proofs.lemmas.List.Splits.{length-slice_split}
use Rattle.mi_text.specs.Version.{part_number, numbers_of, version_parts, version_from, version_of}
use Rattle.mi_text.specs.VersionParts.{IsNextNumber}
use Rattle.mi_text.proofs.version.version_in.Goals as goal

length-numbers_of : (parts : List (List ℕ)) (ns : List ℕ) → numbers_of parts ≡ Some ns → length ns ≡ length parts
length-numbers_of [] ns e = ap (λ (o : Option (List ℕ)). length (unwrap_or o [])) (sym e)
length-numbers_of (part ∷ parts) ns e =
    elim (part_number part) as (λ o. option_and_then (λ n. option_map (λ (ms : List ℕ). n ∷ ms) (numbers_of parts)) o ≡ Some ns → length ns ≡ length (part ∷ parts)) [
      | None ↦ λ h. cc
      | Some n ↦ λ h.
          elim (numbers_of parts) as (λ o. numbers_of parts ≡ o → option_map (λ (ms : List ℕ). n ∷ ms) o ≡ Some ns → length ns ≡ length (part ∷ parts)) [
            | None ↦ λ is i. cc
            | Some ms ↦ λ is i. let whole : ns ≡ n ∷ ms = cc in ap length whole ∙ ap suc (length-numbers_of parts ms is)
          ] refl h
    ] e

never_none : (text : List ℕ) → numbers_of (version_parts text) ≡ Some [] → ⊥
never_none text e = let n = length-numbers_of (version_parts text) [] e in let m = length-slice_split (λ b. b == 46) text in omega arith

five : (a b c d : ℕ) (text : List ℕ) (o : Option (List ℕ)) → numbers_of (version_parts text) ≡ o → None ≡ option_and_then version_from (option_map (λ (ns : List ℕ). a ∷ ns) (option_map (λ (ns : List ℕ). b ∷ ns) (option_map (λ (ns : List ℕ). c ∷ ns) (option_map (λ (ns : List ℕ). d ∷ ns) o))))
five a b c d text None e = refl
five a b c d text (Some []) e = absurd (never_none text e)
five a b c d text (Some (n ∷ ns)) e = let long : nat_le (length (a ∷ b ∷ c ∷ d ∷ n ∷ ns)) 4 ≡ false = grind (arith, nat_tests) in rw long refl

too_many : (text : List ℕ) (a b c d : ℕ) (r1 r2 r3 : Option (List ℕ)) (rest : List ℕ) → IsNextNumber (Some text) a r1 → IsNextNumber r1 b r2 → IsNextNumber r2 c r3 → IsNextNumber r3 d (Some rest) → None ≡ version_of text
too_many text a b c d None None None rest ha hb hc hd = let e : Some rest ≡ None = hd.1 in cc
too_many text a b c d None None (Some t3) rest ha hb hc hd = let e : Some t3 ≡ None = hc.1 in cc
too_many text a b c d None (Some t2) r3 rest ha hb hc hd = let e : Some t2 ≡ None = hb.1 in cc
too_many text a b c d (Some t1) None None rest ha hb hc hd = let e : Some rest ≡ None = hd.1 in cc
too_many text a b c d (Some t1) None (Some t3) rest ha hb hc hd = let e : Some t3 ≡ None = hc.1 in cc
too_many text a b c d (Some t1) (Some t2) None rest ha hb hc hd = let e : Some rest ≡ None = hd.1 in cc
too_many text a b c d (Some t1) (Some t2) (Some t3) rest ha hb hc hd = rw (ha, hb, hc, hd) (five a b c d rest (numbers_of (version_parts rest)) refl)

pub returns-in-Some-left : goal.returns-in-Some-left
returns-in-Some-left c =
    too_many c.args.text.now c.in-Some.major c.in-Some-next_number.minor c.in-Some-next_number-2.build c.in-Some-next_number-3.revision (option_copied c.in-Some.left) (option_copied c.in-Some-next_number.left) (option_copied c.in-Some-next_number-2.left) c.in-Some-left.field-0.now
    c.in-Some.ensures.some c.in-Some-next_number.ensures.some c.in-Some-next_number-2.ensures.some
    (subst (λ (r : Option (Bor (List ℕ))). IsNextNumber (option_copied c.in-Some-next_number-2.left) c.in-Some-next_number-3.revision (option_copied r)) c.in-Some-left.is c.in-Some-next_number-3.ensures.some)
