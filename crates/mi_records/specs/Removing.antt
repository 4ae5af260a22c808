-- What the removal of registry values goes by, as the program keeps it. (RemoveRegistryValues Action. Guards are this project's own.)
use Rattle.std.specs.Prelude.{◌≡◌, ℕ, Bool, true, false, not, nat_eq, if◌then◌else◌, List, Option, Some, None, unwrap_or}
use Rattle.std.specs.List.{starts_with, filter_map}
use Rattle.std.specs.BTreeMap.{BTreeMap, get_by}
use Rattle.std.specs.BTreeSet.{BTreeSet, contains}
use denote.Ref.{Bor}
use Rattle.std.specs.FinMap.{keys}
use Rattle.mi_text.specs.Maps.{Name, name_cmp, is_among}
use Rattle.mi_base.specs.declared.entry.Entry.{Entry}
use Rattle.mi_base.specs.declared.entry.Entry.TheVariants as entry
use Rattle.mi_base.specs.declared.entry.RegValue.TheVariants as value
use Rattle.mi_base.specs.declared.entry.ValueKey.{ValueKey}
use Rattle.mi_base.specs.Names.{value_name}
use Rattle.mi_base.specs.Limits.{fits}
use Rattle.mi_base.specs.Spelling.{name_of}
use Rattle.mi_schema.specs.TableRows.{Numbered, numbered_from}
use Rattle.mi_schema.specs.declared.typed_rows.RegistryRow.{RegistryRow}
use Rattle.mi_model.specs.World.{World}
use Rattle.mi_model.specs.Asked.{keeps}
use Rattle.mi_model.specs.Prune.{Path, Seat, Holder, Leaf, is_on_way, key_seat}
use Rattle.mi_base.specs.Machine.{Machine}
use Rattle.mi_model.specs.RegistryGuards.{value_named, goes_with_key}
use Rattle.mi_records.specs.Values.{IsPlace}
use Rattle.mi_records.specs.declared.less.Rest.{Rest}
use Rattle.mi_records.specs.declared.less.Rest.TheVariants as rest

-- ---- guards

-- the set has exactly the names that are guarded
abbrev pub Guards : BTreeSet Name → (Name → Bool) → Type 0
Guards set guarded = (name : Name) → contains name_cmp set name ≡ guarded name

-- the value that a row of a kept component names
abbrev pub guard_of : World → Numbered RegistryRow → Option Name
guard_of w r = if keeps w r.row.component then value_named w r else None

-- those of all rows, in file order
abbrev pub named_values : World → List Name
named_values w = filter_map (guard_of w) (numbered_from 1 w.given.rows.registry)

-- ---- what is held at a key and below it

-- a key at a key or below it
abbrev pub is_key_at : Path → Seat → Bool
is_key_at key (Holder path) = starts_with nat_eq path key
is_key_at key other = false

-- the name of a value
abbrev pub held_name : ValueKey → Name
held_name k = value_name k.root k.key k.shown

-- where a value stands, as it is held
abbrev pub IsHeld : ValueKey → Type 0
IsHeld k = IsPlace (record { root = k.root; key = k.key; name = k.shown })

-- the place of a guarded value
abbrev pub leaf_of : Seat → Option Path
leaf_of (Leaf path) = Some path
leaf_of other = None

abbrev pub guarded_place : (Name → Bool) → Name → Option Path
guarded_place guarded name = if guarded name then leaf_of (key_seat name) else None

-- a key that no guarded value keeps, of which these are the places
abbrev pub is_loose : List Path → Seat → Bool
is_loose guards (Holder path) = not (is_on_way guards path)
is_loose guards other = false

-- ---- items that are taken out of a list

-- how often an item is still to be taken out
abbrev pub count_at : BTreeMap (Bor Name) ℕ → Name → ℕ
count_at counts item = unwrap_or (get_by (λ k. name_cmp item k.now) counts) 0

-- what becomes of an entry
abbrev pub left_of : Rest → Option Entry → Option Entry
left_of rest.Same old = old
left_of rest.Gone old = None
left_of (rest.Left key items) old = Some (entry.Value key (value.List items))

-- what is left of an entry may stand where it stood
abbrev pub MayBeLeft : Entry → Rest → Type 0
MayBeLeft e (rest.Left key items) = (name_of (entry.Value key (value.List items)) ≡ name_of e) × (fits (entry.Value key (value.List items)) ≡ true)
MayBeLeft e other = Unit {0}

abbrev pub MayBeLeftAt : Name → Rest → Type 0
MayBeLeftAt q (rest.Left key items) = (name_of (entry.Value key (value.List items)) ≡ q) × (fits (entry.Value key (value.List items)) ≡ true)
MayBeLeftAt q other = Unit {0}

-- ---- keys that were cleared

-- nothing of what is held goes with this key
abbrev pub NothingGoes : (Name → Bool) → Machine → Path → Type 0
NothingGoes guarded m key = (q : Name) → is_among q (keys m) ≡ true → goes_with_key guarded (keys m) key q ≡ false

-- nothing goes with any of these keys
abbrev pub AreClear : (Name → Bool) → Machine → BTreeSet Path → Type 0
AreClear guarded m cleared = (key : Path) → contains name_cmp cleared key ≡ true → NothingGoes guarded m key
