-- What a volume in memory keeps: what is held, and of each dirty name what it held at the last good sync.
use Rattle.std.specs.Prelude.{ℕ, ◌/◌, Bool, cond, List, length, take, Option, None, Some, is_some, option_map, if◌then◌else◌, refl}
use Rattle.std.specs.Option.{option_map_or}
use Rattle.std.specs.Coded.{Coded, code_by, coded×, coded_ℕ, coded_list, coded_option}
use Rattle.std.specs.FinMap.{get, insert, remove, empty, keys, code}
use Rattle.mi_text.specs.Maps as names
use Rattle.mi_text.specs.Maps.{Name, set_to, each_name}
use Rattle.mi_volume.specs.Maps.{Map}
use Rattle.mi_volume.specs.declared.choice.Choice.{Choice}
use Rattle.mi_volume.specs.declared.choice.Choice.TheVariants.{Old, New, Torn, Gone}

pub record Kept : Type 0 where
  pub held : Map
  -- the dirty names, each with what it held at the last good sync
  pub before : names.Map (Option (List ℕ))

abbrev pub kept_code : Coded Kept
kept_code = code_by
    (Map × names.Map (Option (List ℕ)))
    (coded× (code (coded_list coded_ℕ) (coded_list coded_ℕ)) (code (coded_list coded_ℕ) (coded_option (coded_list coded_ℕ))))
    (λ k. (k.held, k.before))
    (λ p. record { held = p.0; before = p.1 })
    (λ _. refl)

abbrev pub nothing_kept : Kept
nothing_kept = record { held = empty; before = empty }

abbrev pub is_dirty : Kept → Name → Bool
is_dirty k name = is_some (get k.before name)

-- this stands at the name, or nothing, and the name is dirty
abbrev pub changed : Kept → Name → Option (List ℕ) → Kept
changed k name now = record {
  held = set_to k.held name now;
  before = cond (is_dirty k name) k.before (insert k.before name (get k.held name));
}

-- a name that is held is changed, and one that isn't stays as it was
abbrev pub changed_if_held : Kept → Name → Option (List ℕ) → Kept
changed_if_held k name now = if is_some (get k.held name) then changed k name now else k

-- nothing is dirty
abbrev pub cleaned : Kept → Kept
cleaned k = record { held = k.held; before = empty }

abbrev pub first_half : List ℕ → List ℕ
first_half bytes = take (length bytes / 2) bytes

-- what a crash leaves at a dirty name: what it held at the last good sync, what it holds, the first half of that, or nothing
abbrev pub chosen : Choice → Option (List ℕ) → Option (List ℕ) → Option (List ℕ)
chosen Old was now = was
chosen New was now = now
chosen Torn was now = option_map first_half now
chosen Gone was now = None

-- what a crash leaves, where it treats all dirty names alike
unfoldable pub crashed : Choice → Kept → Map
crashed choice k = each_name k.held (keys k.before) (λ name now. option_map_or (λ was. chosen choice was now) (get k.before name) now)

-- what a volume that is opened after the crash keeps
abbrev pub imaged : Choice → Kept → Kept
imaged choice k = record { held = crashed choice k; before = empty }

-- these bytes, if any, stand at the name, and stood there at the last good sync
abbrev pub with_clean : Kept → Name → Option (List ℕ) → Kept
with_clean k name None = k
with_clean k name (Some bytes) = record { held = insert k.held name bytes; before = remove k.before name }
