-- Reading the area.
use Rattle.std.proofs.Common.{◌≡◌, ℕ, suc, ◌+◌, ◌-◌, ◌<◌, ◌≤◌, Bool, true, false, cond, List, ◌++◌, Option, Some, None, Ok, Err, Result, IsErr, refl, sym, ap, subst, ◌∙◌, arith}
use Rattle.std.specs.FinMap.{get}
use Rattle.mi_volume.specs.Maps.{Map, Fits, size}
use Rattle.mi_undo.specs.Names.{gate_name, entry_name, most_entries}
use Rattle.mi_undo.specs.Notes.{Note}
use Rattle.mi_undo.specs.Stands.{is_one, entry_notes, read_from}
use Rattle.mi_volume.specs.declared.volume.VolFault.{VolFault}
use Rattle.mi_volume.specs.State.{State, Images}
use Rattle.mi_volume.proofs.Moments.{started, joined, weaker}
use Rattle.mi_undo.specs.Area.{notes_in}
use Rattle.mi_undo.specs.Reading.{Looks, AddsEntry, Turns, first_shut}
use Rattle.mi_undo.specs.declared.kept.Place.{Place}
use Rattle.mi_undo.specs.declared.read.Turn.{Turn}
use Rattle.mi_undo.specs.declared.read.Turn.TheVariants.{Read, Shut, Bad}

fuel : (k : ℕ) → k < most_entries → most_entries - k ≡ suc (most_entries - (k + 1))
fuel k below = omega arith

step_more : (d : Map) (k n : ℕ) (seen ns : List Note) → is_one (get d (gate_name k)) ≡ true → entry_notes seen (get d (entry_name k)) ≡ Some ns → read_from d k (suc n) seen ≡ read_from d (suc k) n (seen ++ ns)
unfolding read_from
step_more d k n seen ns is_open entry = rw (is_open, entry) refl

pub step_bad : (d : Map) (k n : ℕ) (seen : List Note) → is_one (get d (gate_name k)) ≡ true → entry_notes seen (get d (entry_name k)) ≡ None → read_from d k (suc n) seen ≡ Err (entry_name k)
unfolding read_from
step_bad d k n seen is_open entry = rw (is_open, entry) refl

step_shut : (d : Map) (k n : ℕ) (seen : List Note) → is_one (get d (gate_name k)) ≡ false → read_from d k (suc n) seen ≡ Ok seen
unfolding read_from
step_shut d k n seen shut = rw shut refl

step_end : (d : Map) (k : ℕ) (seen : List Note) → read_from d k 0 seen ≡ Ok seen
unfolding read_from
step_end d k seen = refl

pub read_more : (d : Map) (k : ℕ) (seen ns : List Note) → k < most_entries → is_one (get d (gate_name k)) ≡ true → entry_notes seen (get d (entry_name k)) ≡ Some ns → read_from d k (most_entries - k) seen ≡ read_from d (k + 1) (most_entries - (k + 1)) (seen ++ ns)
read_more d k seen ns below is_open entry = ap (λ (n : ℕ). read_from d k n seen) (fuel k below) ∙ step_more d k (most_entries - (k + 1)) seen ns is_open entry ∙ ap (λ (j : ℕ). read_from d j (most_entries - (k + 1)) (seen ++ ns)) (let e : suc k ≡ k + 1 = omega arith in e)

pub read_bad : (d : Map) (k : ℕ) (seen : List Note) → k < most_entries → is_one (get d (gate_name k)) ≡ true → entry_notes seen (get d (entry_name k)) ≡ None → read_from d k (most_entries - k) seen ≡ Err (entry_name k)
read_bad d k seen below is_open entry = ap (λ (n : ℕ). read_from d k n seen) (fuel k below) ∙ step_bad d k (most_entries - (k + 1)) seen is_open entry

pub read_shut : (d : Map) (k : ℕ) (seen : List Note) → k < most_entries → is_one (get d (gate_name k)) ≡ false → read_from d k (most_entries - k) seen ≡ Ok seen
read_shut d k seen below shut = ap (λ (n : ℕ). read_from d k n seen) (fuel k below) ∙ step_shut d k (most_entries - (k + 1)) seen shut

pub read_end : (d : Map) (k : ℕ) (seen : List Note) → most_entries ≤ k → read_from d k (most_entries - k) seen ≡ Ok seen
read_end d k seen past = ap (λ (n : ℕ). read_from d k n seen) (let none : most_entries - k ≡ 0 = omega arith in none) ∙ step_end d k seen

pub past_most : (k : ℕ) → 100000000 ≤ k → most_entries ≤ k
unfolding most_entries
past_most k past = past

pub below_most : (k : ℕ) → k < 100000000 → k < most_entries
unfolding most_entries
below_most k below = below

step_first : (d : Map) (k n : ℕ) (b : Bool) → is_one (get d (gate_name k)) ≡ b → first_shut d k (suc n) ≡ cond b (first_shut d (suc k) n) k
unfolding first_shut
step_first d k n b is = ap (λ c. cond c (first_shut d (suc k) n) k) is

first_end : (d : Map) (k : ℕ) → first_shut d k 0 ≡ k
unfolding first_shut
first_end d k = refl

first_is_shut : (d : Map) (k : ℕ) → k < most_entries → is_one (get d (gate_name k)) ≡ false → first_shut d k (most_entries - k) ≡ k
first_is_shut d k below shut = ap (λ (n : ℕ). first_shut d k n) (fuel k below) ∙ step_first d k (most_entries - (k + 1)) false shut

first_goes_on : (d : Map) (k : ℕ) → k < most_entries → is_one (get d (gate_name k)) ≡ true → first_shut d k (most_entries - k) ≡ first_shut d (k + 1) (most_entries - (k + 1))
first_goes_on d k below open_gate = ap (λ (n : ℕ). first_shut d k n) (fuel k below) ∙ step_first d k (most_entries - (k + 1)) true open_gate ∙ ap (λ (j : ℕ). first_shut d j (most_entries - (k + 1))) (let e : suc k ≡ k + 1 = omega arith in e)

pub first_is_end : (d : Map) (k : ℕ) → most_entries ≤ k → first_shut d k (most_entries - k) ≡ k
first_is_end d k past = ap (λ (n : ℕ). first_shut d k n) (let none : most_entries - k ≡ 0 = omega arith in none) ∙ first_end d k

-- the turns of the reader, as its calls tell them
module _ (d : Map) (k : ℕ) (seen : List Note) (b : Bool) (gate : List ℕ) (below : k < 100000000) (is_gate : gate ≡ gate_name k) (value : b ≡ is_one (get d gate)) where
  at_gate : (c : Bool) → b ≡ c → is_one (get d (gate_name k)) ≡ c
  at_gate c is = sym (value ∙ ap (λ (n : List ℕ). is_one (get d n)) is_gate) ∙ is

  pub turn_shut : b ≡ false → Turns d k seen seen (Ok Shut)
  turn_shut shut = (read_shut d k seen (below_most k below) (at_gate false shut), first_is_shut d k (below_most k below) (at_gate false shut))

  module _ (e : Map) (new : List Note) (entry : List ℕ) (c : Bool) (is_entry : entry ≡ entry_name k) (is_open : b ≡ true) (same : e ≡ d) (adds : AddsEntry e entry seen new (Ok c)) where
    at_entry : (o : Option (List Note)) → entry_notes seen (get e entry) ≡ o → entry_notes seen (get d (entry_name k)) ≡ o
    at_entry o is = ap (λ (n : List ℕ). entry_notes seen (get d n)) (sym is_entry) ∙ ap (λ (m : Map). entry_notes seen (get m entry)) (sym same) ∙ is

    pub turn_bad : c ≡ false → Turns d k seen new (Ok (Bad entry))
    turn_bad missing = read_bad d k seen (below_most k below) (at_gate true is_open) (at_entry None (subst (λ (x : Bool). AddsEntry e entry seen new (Ok x)) missing adds)) ∙ ap Err (sym is_entry)

    pub turn_more : c ≡ true → Turns d k seen new (Ok Read)
    turn_more there =
        let added = subst (λ (x : Bool). AddsEntry e entry seen new (Ok x)) there adds in (
          read_more d k seen added.0 (below_most k below) (at_gate true is_open) (at_entry (Some added.0) added.1.0) ∙ ap (λ (l : List Note). read_from d (k + 1) (most_entries - (k + 1)) l) (sym added.1.1),
          first_goes_on d k (below_most k below) (at_gate true is_open),
        )

-- one look after another
pub look_start : (s : State) → Looks s s
look_start s = record { goes = started s (Images s); stays = record { held = refl; dirty = λ q now. now } }

pub look_then : (s t u : State) → Looks s t → Looks t u → Looks s u
look_then s t u first second = record {
  goes = joined s t u (Images s) first.goes (weaker t u (Images t) (Images s) earlier second.goes);
  stays = record { held = second.stays.held ∙ first.stays.held; dirty = λ q now. first.stays.dirty q (second.stays.dirty q now) };
}
  where
    earlier : (d : Map) → Images t d → Images s d
    earlier d image = record {
      agrees = λ q clean. image.agrees q (λ now. clean (first.stays.dirty q now)) ∙ ap (λ (m : Map). get m q) first.stays.held;
      fits = subst (λ (c : Option ℕ). Fits c (size d)) first.goes.capacity image.fits;
    }

pub turn_failed : (d : Map) (k : ℕ) (seen new : List Note) (r : Result Turn VolFault) → IsErr r → Turns d k seen new r
turn_failed d k seen new (Ok t) err = absurd (cc)
turn_failed d k seen new (Err e) err = tt

pub adds_same : (h e : Map) (entry : List ℕ) (old new : List Place) (r : Result Bool VolFault) → e ≡ h → AddsEntry e entry (notes_in e old) (notes_in e new) r → AddsEntry h entry (notes_in h old) (notes_in h new) r
adds_same h e entry old new r same adds = subst (λ (m : Map). AddsEntry m entry (notes_in m old) (notes_in m new) r) same adds

pub read_by : (h later : Map) (k : ℕ) (old new : List Place) (t : Turn) → later ≡ h → Turns later k (notes_in later old) (notes_in later new) (Ok t) → Turns h k (notes_in h old) (notes_in h new) (Ok t)
read_by h later k old new t same turns = subst (λ (m : Map). Turns m k (notes_in m old) (notes_in m new) (Ok t)) same turns
