-- Values that texts make at places.
use Rattle.std.proofs.Common.{◌≡◌, ℕ, true, false, cond, List, [], ◌∷◌, ◌++◌, Option, Some, None, refl, sym, ap, ◌∙◌, arith}
use Rattle.std.proofs.lemmas.Bool.Decides.{nat_tests}
use Rattle.std.specs.Prelude.{codes, Result, Ok, Err, option_map, nat_lt}
use Rattle.std.specs.Result.{result_ok}
use Rattle.std.specs.FinMap.{get}
use Rattle.mi_text.specs.Maps.{Name}
use Rattle.mi_base.specs.declared.entry.Entry.{Entry}
use Rattle.mi_base.specs.declared.entry.RegValue.{RegValue}
use Rattle.mi_base.specs.declared.entry.RegValue.TheVariants as value
use Rattle.mi_base.specs.declared.answers.Fault.TheVariants.{BadValue}
use Rattle.mi_base.specs.Limits.{fits}
use Rattle.mi_base.specs.Machine.{Machine}
use Rattle.mi_base.specs.Names.{value_name, key_name}
use Rattle.mi_regval.specs.declared.change.Change.TheVariants as change
use Rattle.mi_regval.specs.declared.error.ValueFault.{ValueFault}
use Rattle.mi_regval.specs.Values.{value_of, old_items}
use Rattle.mi_regval.specs.Changes.{change_of, change_in, changed}
use Rattle.mi_source.specs.Paths.{Files}
use Rattle.mi_changes.specs.Touches.{Set, by_touch}
use Rattle.mi_changes.specs.Changes.{changes}
use Rattle.mi_changes.proofs.TouchLemmas.{get-by_touch}
use Rattle.mi_changes.proofs.ChangeLemmas.{changes-append}
use Rattle.mi_script.specs.declared.rec.Rec.{Rec}
use Rattle.mi_model.specs.Texts.{Text}
use Rattle.mi_model.specs.Parents.{key_with_parents}
use Rattle.mi_model.specs.Refusals.{size_fault}
use Rattle.mi_model.specs.RegistryRows.{RegistryPlace, name_of_value}
use Rattle.mi_model.specs.RegistryRows as model
use Rattle.mi_model.specs.WriteRegistryValues.{value_entry, value_after, read_fault, written_fault, place_touches}
use Rattle.mi_model_laws.proofs.ParentLemmas.{IsNoKey, keys_elsewhere}
use Rattle.mi_steps.specs.Follows.{Follows, put_touch}
use Rattle.mi_steps.proofs.FollowLemmas.{same_changes}
use Rattle.mi_records.specs.Values.{is_too_large, value_over, IsPlace, IsValueAt, IsRefusedAt, KeepsSize, ReadsValue, MakesValue}
use Rattle.mi_records.specs.declared.stop.Stop.{Stop}
use Rattle.mi_records.specs.declared.stop.Stop.TheVariants.{NoMemory, Refused}
use Rattle.mi_records.proofs.SizeLemmas.{large_unless_fits, fits_unless_large}

-- ---- what a change leaves

-- the old value, a list, stays
unchanged_in : (old : Option RegValue) (v : RegValue) → changed (old_items old) v ≡ change.Unchanged → (o : RegValue) × (old ≡ Some o)
unchanged_in None (value.List items) e = cc
unchanged_in None (value.Text t) e = cc
unchanged_in None (value.Expand t) e = cc
unchanged_in None (value.Int n) e = cc
unchanged_in None (value.Binary b) e = cc
unchanged_in (Some o) v e = (o, refl)

ok_value : (read : Result RegValue ValueFault) (old : Option RegValue) (o : RegValue) → result_ok read ≡ old → old ≡ Some o → read ≡ Ok o
ok_value (Ok v) old o is some = let same : Some v ≡ Some o = is ∙ some in cc
ok_value (Err f) old o is some = let clash : None ≡ Some o = is ∙ some in cc

pub stays_some : (text : Text) (old : Option RegValue) → change_of text old ≡ Ok change.Unchanged → (o : RegValue) × (old ≡ Some o)
stays_some text old e = by (value_of text old) e
  where
    by : (read : Result RegValue ValueFault) → change_in (old_items old) read ≡ Ok change.Unchanged → (o : RegValue) × (old ≡ Some o)
    by (Ok v) is = let same : changed (old_items old) v ≡ change.Unchanged = cc in unchanged_in old v same
    by (Err f) is = cc

pub stays_value : (text : Text) (old : Option RegValue) (o : RegValue) → result_ok (value_of text old) ≡ old → old ≡ Some o → value_of text old ≡ Ok o
stays_value text old o is some = ok_value (value_of text old) old o is some

-- ---- what a row refuses

small_is : (row : ℕ) (e : Entry) → is_too_large e ≡ false → size_fault (codes "Registry") row e ≡ None
unfolding size_fault
small_is row e small = ap (λ b. cond b (Some (BadValue (codes "Registry") row)) None) small

large_is : (row : ℕ) (e : Entry) → is_too_large e ≡ true → size_fault (codes "Registry") row e ≡ Some (BadValue (codes "Registry") row)
unfolding size_fault
large_is row e large = ap (λ b. cond b (Some (BadValue (codes "Registry") row)) None) large

pub written_ok : (m : Machine) (p : RegistryPlace) (text : Text) (e : Entry) (row : ℕ) → IsValueAt m p text e → written_fault m row p (model.Writes text) ≡ None
written_ok m p text e row at = ap (read_fault p row) at.reads ∙ small_is row (value_entry p at.value) (ap is_too_large (sym at.is) ∙ at.small)

pub written_refused : (m : Machine) (p : RegistryPlace) (text : Text) (row : ℕ) → IsRefusedAt m p text → written_fault m row p (model.Writes text) ≡ Some (BadValue (codes "Registry") row)
written_refused m p text row refused = by (value_over m p text) refl
  where
    by : (read : Result RegValue ValueFault) → value_over m p text ≡ read → read_fault p row (value_over m p text) ≡ Some (BadValue (codes "Registry") row)
    by (Ok v) is = ap (read_fault p row) is ∙ large_is row (value_entry p v) (refused.reads v is)
    by (Err f) is = ap (read_fault p row) is

-- ---- the entry that a text makes

same_value : (v w : RegValue) → ◌≡◌ {A = Result RegValue ValueFault} (Ok v) (Ok w) → v ≡ w
same_value v w e = cc

no_value : (w : RegValue) (f : ValueFault) → ◌≡◌ {A = Result RegValue ValueFault} (Ok w) (Err f) → ⊥
no_value w f e = cc

pub large_at : (p : RegistryPlace) (v : RegValue) → IsPlace p → fits (value_entry p v) ≡ false → is_too_large (value_entry p v) ≡ true
large_at p v place unfit =
    let small = place.root in
    let root : nat_lt p.root 4 ≡ true = grind (arith, nat_tests) in
    large_unless_fits p.root p.key p.name v root place.key place.name unfit

pub value_made_at : (m : Machine) (p : RegistryPlace) (text : Text) (v : RegValue) (r : Result Entry Stop) → IsPlace p → value_over m p text ≡ Ok v → KeepsSize (value_entry p v) r → MakesValue m p text r
value_made_at m p text v (Ok e) place reads size = record {
  value = v;
  reads = reads;
  is = size.0;
  small = ap is_too_large size.0 ∙ size.1;
  right = ap fits size.0 ∙ fits_unless_large (value_entry p v) (large_at p v place) size.1;
}
value_made_at m p text v (Err NoMemory) place reads size = tt
value_made_at m p text v (Err (Refused why)) place reads size = (size.0, record { reads = λ w is. let same : v ≡ w = same_value v w (sym reads ∙ is) in ap (λ x. is_too_large (value_entry p x)) (sym same) ∙ size.1 })

pub value_refused_at : (m : Machine) (p : RegistryPlace) (text : Text) (stop : Stop) → ReadsValue (value_over m p text) (Err stop) → MakesValue m p text (Err stop)
value_refused_at m p text NoMemory reads = tt
value_refused_at m p text (Refused why) reads = (reads.0, record { reads = λ w is. absurd (no_value w reads.1 (sym is ∙ reads.2)) })

-- ---- a value behind its key

value_is_no_key : (root : ℕ) (key name : Text) → IsNoKey (value_name root key name)
unfolding value_name key_name
value_is_no_key root key name r k = refl

stays_there : (m : Machine) (p : RegistryPlace) → get (by_touch m (key_with_parents p.root p.key)) (name_of_value p) ≡ get m (name_of_value p)
stays_there m p =
    get-by_touch m (key_with_parents p.root p.key) (name_of_value p)
    ∙ keys_elsewhere (name_of_value p) p.root p.key (get m (name_of_value p)) (value_is_no_key p.root p.key p.name)

pub value_made : (files : Files) (m n : Machine) (h i : List Rec) (p : RegistryPlace) (text : Text) (e : Entry) → IsValueAt m p text e
    → Follows files m n h i (key_with_parents p.root p.key ++ put_touch (name_of_value p) e ∷ []) → Follows files m n h i (place_touches p (model.Writes text))
value_made files m n h i p text e at made =
    let keys = key_with_parents p.root p.key in
    let q : Name = name_of_value p in
    let after : Some e ≡ value_after p text (get (by_touch m keys) q) =
    ap Some at.is
    ∙ ap (λ (r : Result RegValue ValueFault). option_map (value_entry p) (result_ok r)) (sym at.reads)
    ∙ ap (value_after p text) (sym (stays_there m p)) in
    same_changes files m n h i (keys ++ put_touch q e ∷ []) (place_touches p (model.Writes text))
    (changes-append m keys (put_touch q e ∷ [])
    ∙ ap (λ (o : Option Entry). changes m keys ++ record { at = q; after = o } ∷ []) after
    ∙ sym (changes-append m keys (Set q (value_after p text) ∷ [])))
    made
