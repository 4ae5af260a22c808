-- The machine that is read of a volume is spelled by the map that is held.
use Rattle.std.proofs.Common.{◌≡◌, ℕ, Bool, true, false, cond, ◌&&◌, eqb, arith, List, [], ◌∷◌, None, Result, Ok, Err, refl, sym, ap, ◌∙◌, subst}
use Rattle.std.specs.Prelude.{option_map, option_and_then, IsOk, IsOkAnd}
use Rattle.std.proofs.lemmas.Bool.Decides.{nat_tests}
use Rattle.std.specs.FinMap.{get}
use Rattle.mi_text.specs.Maps.{Name, Map}
use Rattle.mi_text.proofs.MapLemmas.{same}
use Rattle.mi_undo.specs.Names.{is_inside}
use Rattle.mi_base.specs.Spelling.{record_of}
use Rattle.mi_base.specs.SpelledMaps.{is_area}
use Rattle.mi_base.specs.Machine.{Machine, volume_of, machine_of, read_entry}
use Rattle.mi_base.proofs.MachineLemmas.{get-volume_of, volume_same, entry_same}
use Rattle.mi_source.specs.Paths.{Files}
use Rattle.mi_image.specs.Items.{Items, machine_over, AreThere, ImageOf}

-- ---- the map that spells the machine

area_is : (q : Name) → is_area q ≡ is_inside q
area_is [] = refl
area_is (a ∷ []) = last (eqb 106 a)
  where
    last : (b : Bool) → (b && false) ≡ false
    last true = refl
    last false = refl
area_is (a ∷ b ∷ rest) = both (eqb 106 a) (eqb 47 b) ∙ (λ i. swapped 106 a i && swapped 47 b i)
  where
    both : (x y : Bool) → (x && (y && true)) ≡ (x && y)
    both true true = refl
    both true false = refl
    both false y = refl

    swapped : (m n : ℕ) → eqb m n ≡ eqb n m
    swapped m n = grind (arith, nat_tests)

-- a map with no rollback area is what its machine spells
pub former_is : (held : Map (List ℕ)) (m : Machine) → ((q : Name) → is_inside q ≡ true → get held q ≡ None) → machine_of held ≡ Ok m → volume_of m ≡ held
former_is held m free is = same _ _ (λ q. at q (is_area q) refl)
  where
    at : (q : Name) (b : Bool) → is_area q ≡ b → get (volume_of m) q ≡ get held q
    at q true area =
        get-volume_of m q ∙ ap (option_map record_of) (entry_same held m is q ∙ ap (λ b. cond b None (option_and_then (read_entry q) (get held q))) area)
        ∙ sym (free q (sym (area_is q) ∙ area))
    at q false area = volume_same held m is q area

-- the scanned machine is spelled by the map that is held
pub scanned_spells : (files : Files) (h h' : Map (List ℕ)) (image : Items) (r : Result Machine Name) → ((q : Name) → is_inside q ≡ true → get h q ≡ None) → h' ≡ h → ((m : Machine) → r ≡ Ok m → machine_of h ≡ Ok m) → IsOkAnd r (ImageOf h files image) → volume_of (machine_over h' files image) ≡ h'
scanned_spells files h h' image (Ok m) free is read of = ap (λ (x : Map (List ℕ)). volume_of (machine_over x files image)) is ∙ ap volume_of of.stands ∙ former_is h m free (read m refl) ∙ sym is
scanned_spells files h h' image (Err name) free is read of = absurd of

-- what the scanned image says of contents is there
pub scanned_contents : (files : Files) (h h' : Map (List ℕ)) (image : Items) (r : Result Machine Name) → h' ≡ h → IsOkAnd r (ImageOf h files image) → AreThere h' files image
scanned_contents files h h' image (Ok m) is of = subst (λ (x : Map (List ℕ)). AreThere x files image) (sym is) of.there
scanned_contents files h h' image (Err name) is of = absurd of

-- and every held name is spelled
pub scanned_ok : (files : Files) (h h' : Map (List ℕ)) (image : Items) → h' ≡ h → IsOkAnd (machine_of h) (ImageOf h files image) → IsOk (machine_of h')
scanned_ok files h h' image is of = subst (λ (x : Map (List ℕ)). IsOk (machine_of x)) (sym is) (by (machine_of h) of)
  where
    by : (r : Result Machine Name) → IsOkAnd r (ImageOf h files image) → IsOk r
    by (Ok m) of = refl
    by (Err name) of = absurd of
