-- What is spelled for changes makes the map of the machine after them, and scripts one behind the other.
use Rattle.std.proofs.Common.{◌≡◌, ℕ, Bool, true, false, cond, List, [], ◌∷◌, ◌++◌, Option, Some, None, refl, sym, ap, ◌∙◌}
use Rattle.std.specs.Prelude.{option_map, ◌&&◌, not}
use Rattle.std.proofs.lemmas.Slice.Eq.{bytes_eq-Decides}
use Rattle.std.specs.FinMap.{get}
use Rattle.mi_text.specs.Maps.{Name, Map, set_to, same_name}
use Rattle.mi_base.specs.declared.entry.Entry.{Entry}
use Rattle.mi_base.specs.Machine.{Machine, volume_of}
use Rattle.mi_base.specs.Spelling.{record_of}
use Rattle.mi_source.specs.Paths.{Files}
use Rattle.mi_text.proofs.MapLemmas.{same, get-set_to, from_same}
use Rattle.mi_changes.specs.Changes.{Change, written}
use Rattle.mi_changes.proofs.TouchLemmas.{map_values-set_to}
use Rattle.mi_changes.proofs.ChangeLemmas.{written-append, spelled_all-append}
use Rattle.mi_script.specs.declared.rec.Rec.{Rec}
use Rattle.mi_script.specs.Scripts.{change_of, script_changes, after_script}
use Rattle.mi_script.specs.Spelled.{writes_file, same_record, recorded, is_left_out, spelled, spelled_changes}

pub volume_of-set_to : (m : Machine) (n : Name) (o : Option Entry) → volume_of (set_to m n o) ≡ set_to (volume_of m) n (option_map record_of o)
unfolding volume_of
volume_of-set_to m n o = map_values-set_to record_of m n o

-- what stands there is set again
pub set_same : {X : Type 0} → (m : Map X) (n : Name) (o : Option X) → get m n ≡ o → set_to m n o ≡ m
set_same m n o is = same _ _ (λ q. get-set_to m n o q
    ∙ elim (same_name q n) as (λ b. same_name q n ≡ b → cond b o (get m q) ≡ get m q) [ true ↦ λ e. sym is ∙ ap (get m) (sym (from_same q n e)) | false ↦ λ e. refl ] refl)

same_from : (a b : Option (List ℕ)) → same_record a b ≡ true → b ≡ a
same_from None None e = refl
same_from None (Some b) e = cc
same_from (Some a) None e = cc
same_from (Some a) (Some b) e = ap (λ (x : List ℕ). Some x) (sym ((bytes_eq-Decides a b).0 e))

left_out_same : (c : Change (List ℕ)) (o : Option (List ℕ)) (b : Bool) → (not b && same_record c.after o) ≡ true → o ≡ c.after
left_out_same c o true e = cc
left_out_same c o false e = same_from c.after o e

pub written-spelled_one : (m : Machine) (c : Change Entry) → written (volume_of m) (spelled (volume_of m) c) ≡ volume_of (set_to m c.at c.after)
written-spelled_one m c =
    elim (is_left_out (recorded c) (get (volume_of m) c.at)) as (λ b. is_left_out (recorded c) (get (volume_of m) c.at) ≡ b → written (volume_of m) (cond b [] (recorded c ∷ [])) ≡ set_to (volume_of m) c.at (option_map record_of c.after)) [
      | true ↦ λ e. sym (set_same (volume_of m) c.at (option_map record_of c.after) (left_out_same (recorded c) _ (writes_file c.at (option_map record_of c.after)) e))
      | false ↦ λ e. refl
    ] refl
    ∙ sym (volume_of-set_to m c.at c.after)

-- what changes of the machine spell makes the map of the machine after them
pub written-spelled : (m : Machine) (cs : List (Change Entry)) → written (volume_of m) (spelled_changes (volume_of m) cs) ≡ volume_of (written m cs)
written-spelled m [] = refl
written-spelled m (c ∷ cs) =
    written-append (volume_of m) (spelled (volume_of m) c) (spelled_changes (written (volume_of m) (spelled (volume_of m) c)) cs)
    ∙ ap (λ d. written d (spelled_changes d cs)) (written-spelled_one m c)
    ∙ written-spelled (set_to m c.at c.after) cs

pub spelled-append : (d : Map (List ℕ)) (a b : List (Change Entry)) → spelled_changes d (a ++ b) ≡ spelled_changes d a ++ spelled_changes (written d (spelled_changes d a)) b
spelled-append d a b = spelled_all-append spelled d a b

pub script-append : (files : Files) (d : Map (List ℕ)) (a b : List Rec) → script_changes files d (a ++ b) ≡ script_changes files d a ++ script_changes files (after_script files d a) b
script-append files d [] b = refl
script-append files d (r ∷ a) b = let c = change_of files d r in ap (λ (cs : List (Change (List ℕ))). c ∷ cs) (script-append files (set_to d c.at c.after) a b)

-- a file that is written is never left out
pub a_written_file_stays : (d : Map (List ℕ)) (c : Change Entry) → writes_file c.at c.after ≡ true → spelled d c ≡ recorded c ∷ []
a_written_file_stays d c is = ap (λ (b : Bool). cond b [] (recorded c ∷ [])) (ap (λ (b : Bool). not b && same_record (recorded c).after (get d c.at)) (kept c.after ∙ is))
  where
    kept : (o : Option Entry) → writes_file c.at (option_map record_of o) ≡ writes_file c.at o
    kept None = refl
    kept (Some e) = refl
