-- A copy of what a crash leaves, slot by slot.
use Rattle.std.proofs.Common.{◌≡◌, ℕ, Bool, true, false, cond, List, [], ◌∷◌, Option, Some, None, refl, sym, ap, ◌∙◌}
use Rattle.std.specs.Prelude.{option_and_then, is_some}
use Rattle.std.specs.Option.{option_map_or}
use Rattle.std.specs.List.{AllByRecursion}
use Rattle.std.specs.List.Sorted.{IsStrictlySortedBy}
use Rattle.std.specs.Map.{keys_of}
use Rattle.std.specs.Ordering.{is_eq}
use Rattle.std.specs.declared.cmp.Ordering.TheVariants.{Less}
use Rattle.std.specs.FinMap.{get, remove, empty, keys, get-insert, get-remove, get-empty}
use Rattle.std.proofs.lemmas.Map.Keys.{sorted_head, sorted_tail}
use Rattle.mi_text.specs.Maps.{Name, name_cmp, same_name}
use Rattle.mi_text.proofs.MapLemmas.{names_total, from_same, same_itself, same, get-each_name, among-keys}
use Rattle.mi_volume.specs.Kept.{Kept, nothing_kept, chosen, crashed, imaged, with_clean}
use Rattle.mi_volume.specs.Slots.{was, map_of, at_name, kept_of, HaveSlots, left_by}
use Rattle.mi_volume.specs.declared.before.Before.{Before}
use Rattle.mi_volume.specs.declared.choice.Choice.{Choice}
use Rattle.mi_volume.proofs.SlotLemmas.{get-map_of, get-before_of}
use Rattle.mi_volume.proofs.KeptLemmas.{same_kept}

-- what a crash leaves at a name that may have a slot
abbrev pub left_at : Choice → Option (List ℕ) → Option Before → Option (List ℕ)
left_at choice now slot = option_and_then (left_by choice now) slot

-- the slots up to the rest are copied
pub record Copying (choice : Choice) (h : List (Name × List ℕ)) (all rest : List (Name × Before)) (image : Kept) : Type 0 where
  pub sorted : IsStrictlySortedBy name_cmp (keys_of rest)
  pub part : (q : Name) (b : Before) → at_name rest q ≡ Some b → at_name all q ≡ Some b
  pub clean : image.before ≡ empty
  pub copied : (q : Name) → get image.held q ≡ cond (is_some (at_name rest q)) None (left_at choice (at_name h q) (at_name all q))

pub copying_starts : (choice : Choice) (h : List (Name × List ℕ)) (all : List (Name × Before)) (image : Kept) → IsStrictlySortedBy name_cmp (keys_of all) → image ≡ nothing_kept → Copying choice h all all image
copying_starts choice h all image sorted is = record {
  sorted = sorted;
  part = λ q b at. at;
  clean = ap (λ (k : Kept). k.before) is;
  copied = λ q. ap (λ (k : Kept). get k.held q) is ∙ get-empty name_cmp q ∙ sym (none (at_name all q) (at_name h q));
}
  where
    none : (o : Option Before) (now : Option (List ℕ)) → cond (is_some o) None (left_at choice now o) ≡ None
    none None now = refl
    none (Some b) now = refl

absent_below : {X : Type 0} → (k : Name) (es : List (Name × X)) → AllByRecursion (λ y. name_cmp k y ≡ Less) (keys_of es) → at_name es k ≡ None
absent_below k [] below = refl
absent_below k (e ∷ es) below = ap (λ o. cond (is_eq o) (Some e.1) (at_name es k)) below.0 ∙ absent_below k es below.1

get_left : (image : Kept) (name : Name) (left : Option (List ℕ)) (q : Name) → get image.held name ≡ None → get (with_clean image name left).held q ≡ cond (same_name q name) left (get image.held q)
get_left image name None q none =
    elim (same_name q name) as (λ b. same_name q name ≡ b → get image.held q ≡ cond b None (get image.held q)) [
      | true ↦ λ e. ap (get image.held) (from_same q name e) ∙ none
      | false ↦ λ e. refl
    ] refl
get_left image name (Some bytes) q none = get-insert names_total image.held name bytes q

still_clean : (image : Kept) (name : Name) (left : Option (List ℕ)) → image.before ≡ empty → (with_clean image name left).before ≡ empty
still_clean image name None clean = clean
still_clean image name (Some bytes) clean =
    ap (λ m. remove m name) clean ∙ same _ _ (λ q. get-remove names_total empty name q ∙ none (same_name q name) (get-empty name_cmp q) ∙ sym (get-empty name_cmp q))
  where
    none : (b : Bool) {o : Option (Option (List ℕ))} → o ≡ None → cond b None o ≡ None
    none true is = refl
    none false is = is

pub copying_goes_on : (choice : Choice) (h : List (Name × List ℕ)) (all rest : List (Name × Before)) (name : Name) (slot : Before) (image : Kept) (left : Option (List ℕ))
    → Copying choice h all ((name, slot) ∷ rest) image → left ≡ left_by choice (at_name h name) slot → Copying choice h all rest (with_clean image name left)
copying_goes_on choice h all rest name slot image left copying is = record {
  sorted = sorted_tail name_cmp name (keys_of rest) copying.sorted;
  part = λ q b at. copying.part q b (later q b at);
  clean = still_clean image name left copying.clean;
  copied = λ q. get_left image name left q absent ∙ each q;
}
  where
    behind : at_name rest name ≡ None
    behind = absent_below name rest (sorted_head name_cmp name (keys_of rest) copying.sorted)

    here : at_name ((name, slot) ∷ rest) name ≡ Some slot
    here = ap (λ b. cond b (Some slot) (at_name rest name)) (same_itself name)

    absent : get image.held name ≡ None
    absent = copying.copied name ∙ ap (λ o. cond (is_some o) None (left_at choice (at_name h name) (at_name all name))) here

    later : (q : Name) (b : Before) → at_name rest q ≡ Some b → at_name ((name, slot) ∷ rest) q ≡ Some b
    later q b at =
        elim (same_name q name) as (λ t. same_name q name ≡ t → cond t (Some slot) (at_name rest q) ≡ Some b) [
          | true ↦ λ e. let clash : None ≡ Some b = sym behind ∙ ap (at_name rest) (sym (from_same q name e)) ∙ at in cc
          | false ↦ λ e. at
        ] refl

    all_here : left_at choice (at_name h name) (at_name all name) ≡ left
    all_here = ap (left_at choice (at_name h name)) (copying.part name slot here) ∙ sym is

    each : (q : Name) → cond (same_name q name) left (get image.held q) ≡ cond (is_some (at_name rest q)) None (left_at choice (at_name h q) (at_name all q))
    each q =
        elim (same_name q name) as (λ t. same_name q name ≡ t → cond t left (get image.held q) ≡ cond (is_some (at_name rest q)) None (left_at choice (at_name h q) (at_name all q))) [
          | true ↦ λ e. sym (ap (λ n. cond (is_some (at_name rest n)) None (left_at choice (at_name h n) (at_name all n))) (from_same q name e) ∙ ap (λ o. cond (is_some o) None (left_at choice (at_name h name) (at_name all name))) behind ∙ all_here)
          | false ↦ λ e. copying.copied q ∙ ap (λ t. cond (is_some (cond t (Some slot) (at_name rest q))) None (left_at choice (at_name h q) (at_name all q))) e
        ] refl

pub get-crashed : (choice : Choice) (k : Kept) (q : Name) → get (crashed choice k) q ≡ option_map_or (λ held. chosen choice held (get k.held q)) (get k.before q) (get k.held q)
unfolding crashed
get-crashed choice k q = get-each_name k.held (keys k.before) (λ name now. option_map_or (λ held. chosen choice held now) (get k.before name) now) q
    (λ none. unchanged (get k.before q) (among-keys k.before q ∙ none))
  where
    unchanged : (o : Option (Option (List ℕ))) → is_some o ≡ false → option_map_or (λ held. chosen choice held None) o None ≡ None
    unchanged None is = refl
    unchanged (Some x) is = cc

pub copying_ends : (choice : Choice) (h : List (Name × List ℕ)) (all rest : List (Name × Before)) (image : Kept) → HaveSlots h all → Copying choice h all rest image → rest ≡ [] → image ≡ imaged choice (kept_of h all)
copying_ends choice h all rest image have copying is =
    same_kept _ _ (same _ _ (λ q. copying.copied q ∙ ap (λ (es : List (Name × Before)). cond (is_some (at_name es q)) None (left_at choice (at_name h q) (at_name all q))) is
    ∙ by_slot (at_name h q) (at_name all q) (have q)
    ∙ ap (λ now. option_map_or (λ held. chosen choice held now) (option_and_then (λ b. was b now) (at_name all q)) now) (sym (get-map_of h q))
    ∙ ap (λ o. option_map_or (λ held. chosen choice held (get (map_of h) q)) o (get (map_of h) q)) (sym (get-before_of (map_of h) all q))
    ∙ sym (get-crashed choice (kept_of h all) q))) copying.clean
  where
    by_slot : (now : Option (List ℕ)) (o : Option Before) → (is_some now ≡ true → is_some o ≡ true) → left_at choice now o ≡ option_map_or (λ held. chosen choice held now) (option_and_then (λ b. was b now) o) now
    by_slot None None there = refl
    by_slot (Some x) None there = let clash : false ≡ true = there refl in cc
    by_slot now (Some b) there = refl
