-- Scripts spell the rows of phases, one behind another.
use Rattle.std.proofs.Common.{◌≡◌, ℕ, List, [], ◌∷◌, ◌++◌, map, refl, sym, ap, subst, ◌∙◌, append_assoc}
use Rattle.std.specs.List.{All}
use Rattle.std.proofs.lemmas.List.{map-append}
use Rattle.std.proofs.lemmas.List.Elements.{All-cons, All-head, All-nil, All-tail}
use Rattle.mi_text.specs.Maps.{Map}
use Rattle.mi_volume.specs.Maps.{slot_size}
use Rattle.mi_base.specs.Machine.{Machine, volume_of}
use Rattle.mi_source.specs.Paths.{Files}
use Rattle.mi_changes.specs.Touches.{after_touches, by_touch}
use Rattle.mi_changes.specs.Changes.{Change, written, changes}
use Rattle.mi_script.specs.Spelled.{spelled_changes}
use Rattle.mi_script.specs.declared.rec.Rec.{Rec}
use Rattle.mi_script.specs.Scripts.{script_changes, after_script}
use Rattle.mi_model.specs.PhaseRows.{Touches, after_rows}
use Rattle.mi_model.specs.Plans.{all_touches, Spells}
use Rattle.mi_model.specs.StatedSizes.{HasCopied, StateSizes, stated_size}
use Rattle.mi_changes.proofs.TouchLemmas.{one_by_one, by_touch-append}
use Rattle.mi_changes.proofs.ChangeLemmas.{written-changes, changes-append}
use Rattle.mi_script.proofs.SpellLemmas.{written-spelled, spelled-append, script-append}

-- ---- touches of rows

all-append : (a b : List Touches) → all_touches (a ++ b) ≡ all_touches a ++ all_touches b
all-append [] b = refl
all-append (r ∷ a) b = ap (λ ts. r ++ ts) (all-append a b) ∙ sym (append_assoc r (all_touches a) (all_touches b))

-- row after row is touch after touch
pub by_rows_touch : (m : Machine) (rows : List Touches) → by_touch m (all_touches rows) ≡ after_rows m rows
by_rows_touch m [] = refl
by_rows_touch m (r ∷ rows) = by_touch-append m r (all_touches rows) ∙ ap (λ n. by_touch n (all_touches rows)) (one_by_one m r) ∙ by_rows_touch (after_touches m r) rows

-- ---- the sizes that records state

all_before : {X : Type 0} (P : X → Type 0) (xs ys : List X) → All P (xs ++ ys) → All P xs
all_before P [] ys all = All-nil P
all_before P (x ∷ xs) ys all = All-cons P x xs (All-head P x (xs ++ ys) all) (all_before P xs ys (All-tail P x (xs ++ ys) all))

all_behind : {X : Type 0} (P : X → Type 0) (xs ys : List X) → All P (xs ++ ys) → All P ys
all_behind P [] ys all = all
all_behind P (x ∷ xs) ys all = all_behind P xs ys (All-tail P x (xs ++ ys) all)

-- what a change leaves at its name
abbrev size_after : Change (List ℕ) → ℕ
size_after c = slot_size c.at c.after

-- scripts one behind another state the sizes that their names get
pub sizes_joined : (files : Files) (d : Map (List ℕ)) (rs ss : List Rec) → StateSizes files d rs → StateSizes files (after_script files d rs) ss → StateSizes files d (rs ++ ss)
sizes_joined files d rs ss first second have =
    ap (map size_after) (script-append files d rs ss)
    ∙ map-append size_after (script_changes files d rs) (script_changes files (after_script files d rs) ss)
    ∙ ap (λ (ns : List ℕ). ns ++ map size_after (script_changes files (after_script files d rs) ss)) (first (all_before (HasCopied files) rs ss have))
    ∙ ap (λ (ns : List ℕ). map stated_size rs ++ ns) (second (all_behind (HasCopied files) rs ss have))
    ∙ sym (map-append stated_size rs ss)

-- ---- scripts

-- a script takes the map of the machine before its rows to that of the machine after them
pub after_spells : (files : Files) (m : Machine) (rows : List Touches) (records : List Rec) → Spells files m rows records → after_script files (volume_of m) records ≡ volume_of (after_rows m rows)
after_spells files m rows records s =
    ap (written (volume_of m)) s.is
    ∙ written-spelled m (changes m (all_touches rows))
    ∙ ap volume_of (written-changes m (all_touches rows) ∙ by_rows_touch m rows)

pub no_script : (files : Files) (m : Machine) → Spells files m [] []
no_script files m = record { is = refl; sizes = λ have. refl }

-- one script behind another
pub joined : (files : Files) (m : Machine) (a b : List Touches) (rs ss : List Rec) → Spells files m a rs → Spells files (after_rows m a) b ss → Spells files m (a ++ b) (rs ++ ss)
joined files m a b rs ss first second = record {
  is =
      script-append files (volume_of m) rs ss
      ∙ ap (λ d. script_changes files (volume_of m) rs ++ script_changes files d ss) (after_spells files m a rs first)
      ∙ ap (λ (cs : List (Change (List ℕ))). cs ++ script_changes files (volume_of (after_rows m a)) ss) first.is
      ∙ ap (λ (cs : List (Change (List ℕ))). spelled_changes (volume_of m) (changes m (all_touches a)) ++ cs) second.is
      ∙ ap (λ d. spelled_changes (volume_of m) (changes m (all_touches a)) ++ spelled_changes d (changes (after_rows m a) (all_touches b))) (sym at_b)
      ∙ sym (spelled-append (volume_of m) (changes m (all_touches a)) (changes (after_rows m a) (all_touches b)))
      ∙ ap (λ k. spelled_changes (volume_of m) (changes m (all_touches a) ++ changes k (all_touches b))) (sym (by_rows_touch m a))
      ∙ ap (spelled_changes (volume_of m)) (sym (changes-append m (all_touches a) (all_touches b)))
      ∙ ap (λ ts. spelled_changes (volume_of m) (changes m ts)) (sym (all-append a b));
  sizes = sizes_joined files (volume_of m) rs ss first.sizes (subst (λ d. StateSizes files d ss) (sym (after_spells files m a rs first)) second.sizes);
}
  where
    at_b : written (volume_of m) (spelled_changes (volume_of m) (changes m (all_touches a))) ≡ volume_of (after_rows m a)
    at_b = written-spelled m (changes m (all_touches a)) ∙ ap volume_of (written-changes m (all_touches a) ∙ by_rows_touch m a)
