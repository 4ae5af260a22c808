-- What an image was before it was changed.
use Rattle.std.proofs.Common.{◌≡◌, Bool, true, false, cond, ◌||◌, List, [], ◌++◌, Option, Some, None, Result, Ok, Err, OnOk, OnErr, refl, sym, ap, subst, ◌∙◌}
use Rattle.std.specs.Prelude.{is_some, unwrap_or, option_map, string_bytes}
use Rattle.std.specs.Ordering.{nat_cmp}
use Rattle.std.specs.Cmp.Lexicographic.{slice_cmp}
use Rattle.std.specs.BTreeMap.{BTreeMap}
use Rattle.std.specs.BTreeMap as tree
use Rattle.std.specs.Map.{lookup}
use Rattle.std.specs.FinMap.{get, insert, keys, empty, get-empty}
use Rattle.mi_text.specs.Maps.{Name, Map, name_cmp, same_name, set_to, is_among, map_values}
use Rattle.mi_text.proofs.MapLemmas.{from_same, same_itself, same, get-set_to, get-map_values, get-tabulated, is_among-append, among-keys}
use Rattle.mi_text.proofs.TreeLemmas.{at_as, map_as, get-map_as, stored_as}
use Rattle.mi_changes.proofs.TouchLemmas.{map_values-set_to}
use Rattle.mi_image.specs.declared.item.Item.{Item}
use Rattle.mi_image.specs.Items.{Items, Boxed, unboxed, MayStand, AreRight}
use Rattle.mi_image.specs.Overlays.{Stood, stood_of, before}
use Rattle.mi_image.proofs.ItemLemmas.{Key, key_cmp}

-- ---- the map that the program's tree of what stood means

-- what stood at a name
pub get-stood : (es : List (Key × Option Boxed)) (q : Name) → get (stood_of es) q ≡ option_map (option_map unboxed) (lookup (at_as (λ (k : Key). string_bytes k) q) es)
get-stood es q = get-map_values (option_map unboxed) (map_as (λ (k : Key). string_bytes k) es) q ∙ ap (option_map (option_map unboxed)) (get-map_as (λ (k : Key). string_bytes k) es q)

-- after a note at the name n
pub noted_at : (m new : BTreeMap Key (Option Boxed)) (n : Name) (w : Option (Option Boxed)) → tree.UpdatesBy key_cmp (λ k. slice_cmp nat_cmp n (string_bytes k)) m new w
    → stood_of new.entries ≡ set_to (stood_of m.entries) n (option_map (option_map unboxed) w)
noted_at m new n w u = ap (map_values (option_map unboxed)) (stored_as (λ (k : Key). string_bytes k) m new n w u) ∙ map_values-set_to (option_map unboxed) (map_as (λ (k : Key). string_bytes k) m.entries) n w

pub none_stood : (es : List (Key × Option Boxed)) → es ≡ [] → stood_of es ≡ empty
none_stood es none = same _ _ (λ q. get-stood es q ∙ ap (λ (ks : List (Key × Option Boxed)). option_map (option_map unboxed) (lookup (at_as (λ (k : Key). string_bytes k) q) ks)) none ∙ sym (get-empty name_cmp q))

-- ---- what it was before

by_name : (s : Option (Option Item)) (o : Option Item) (a b : Bool) → is_some o ≡ a → is_some s ≡ b → cond (a || b) (unwrap_or s o) None ≡ unwrap_or s o
by_name None None a b is_a is_b = nothing (a || b)
  where
    nothing : (t : Bool) → cond {A = Option Item} t None None ≡ None
    nothing true = refl
    nothing false = refl
by_name None (Some i) true b is_a is_b = refl
by_name None (Some i) false b is_a is_b = absurd cc
by_name (Some s) o true true is_a is_b = refl
by_name (Some s) o false true is_a is_b = refl
by_name (Some s) o a false is_a is_b = absurd cc

pub get-before : (items : Items) (stood : Stood) (q : Name) → get (before items stood) q ≡ unwrap_or (get stood q) (get items q)
unfolding before
get-before items stood q =
    get-tabulated (λ n. unwrap_or (get stood n) (get items n)) (keys items ++ keys stood) q
    ∙ ap (λ (b : Bool). cond b (unwrap_or (get stood q) (get items q)) None) (is_among-append q (keys items) (keys stood))
    ∙ by_name (get stood q) (get items q) (is_among q (keys items)) (is_among q (keys stood)) (among-keys items q) (among-keys stood q)

-- nothing was changed yet
pub before_nothing : (items : Items) (stood : Stood) → stood ≡ empty → before items stood ≡ items
before_nothing items stood none = same _ _ (λ q. get-before items stood q ∙ ap (λ (s : Option (Option Item)). unwrap_or s (get items q)) (ap (λ (s : Stood). get s q) none ∙ get-empty _ q))

-- a name that was changed before is changed again
pub changed_again : (items : Items) (stood : Stood) (n : Name) (o was : Option Item) → get stood n ≡ Some was → before (set_to items n o) stood ≡ before items stood
changed_again items stood n o was at = same _ _ (λ q.
    get-before (set_to items n o) stood q
    ∙ ap (unwrap_or (get stood q)) (get-set_to items n o q)
    ∙ elim (same_name q n) as (λ b. same_name q n ≡ b → unwrap_or (get stood q) (cond b o (get items q)) ≡ unwrap_or (get stood q) (get items q)) [
      | true ↦ λ e. let here : get stood q ≡ Some was = ap (get stood) (from_same q n e) ∙ at in ap (λ (s : Option (Option Item)). unwrap_or s o) here ∙ sym (ap (λ (s : Option (Option Item)). unwrap_or s (get items q)) here)
      | false ↦ λ e. refl
    ] refl
    ∙ sym (get-before items stood q))

-- a name is changed for the first time, and what stood there is noted
pub changed_first : (items : Items) (stood : Stood) (n : Name) (o was : Option Item) → get stood n ≡ None → was ≡ get items n → before (set_to items n o) (insert stood n was) ≡ before items stood
changed_first items stood n o was at is = same _ _ (λ q.
    get-before (set_to items n o) (insert stood n was) q
    ∙ ap (λ (s : Option (Option Item)). unwrap_or s (get (set_to items n o) q)) (get-set_to stood n (Some was) q)
    ∙ ap (unwrap_or (cond (same_name q n) (Some was) (get stood q))) (get-set_to items n o q)
    ∙ elim (same_name q n) as (λ b. same_name q n ≡ b → unwrap_or (cond b (Some was) (get stood q)) (cond b o (get items q)) ≡ unwrap_or (get stood q) (get items q)) [
      | true ↦ λ e. is ∙ ap (get items) (sym (from_same q n e)) ∙ sym (ap (λ (s : Option (Option Item)). unwrap_or s (get items q)) (ap (get stood) (from_same q n e) ∙ at))
      | false ↦ λ e. refl
    ] refl
    ∙ sym (get-before items stood q))

-- of two notes at one name the second stands
pub noted_again : (stood : Stood) (n : Name) (first second : Option Item) → insert (insert stood n first) n second ≡ insert stood n second
noted_again stood n first second = same _ _ (λ q.
    get-set_to (insert stood n first) n (Some second) q ∙ ap (cond (same_name q n) (Some second)) (get-set_to stood n (Some first) q)
    ∙ either (same_name q n) (get stood q)
    ∙ sym (get-set_to stood n (Some second) q))
  where
    either : (b : Bool) (s : Option (Option Item)) → cond b (Some second) (cond b (Some first) s) ≡ cond b (Some second) s
    either true s = refl
    either false s = refl

-- what stood at a name is set there again
pub set_back : (items : Items) (n : Name) (o : Option Item) → set_to (set_to items n o) n (get items n) ≡ items
set_back items n o = same _ _ (λ q.
    get-set_to (set_to items n o) n (get items n) q ∙ ap (cond (same_name q n) (get items n)) (get-set_to items n o q)
    ∙ elim (same_name q n) as (λ b. same_name q n ≡ b → cond b (get items n) (cond b o (get items q)) ≡ get items q) [
      | true ↦ λ e. sym (ap (get items) (from_same q n e))
      | false ↦ λ e. refl
    ] refl)

-- ---- as the steps of a change give it

pub is_set : {X : Type 0} (m new : Map X) (n k : Name) (x : X) → new ≡ insert m n x → k ≡ n → is_some (get new k) ≡ true
is_set {X} m new n k x is same =
    ap (λ (s : Map X). is_some (get s k)) is
    ∙ ap (λ (q : Name). is_some (get (insert m n x) q)) same
    ∙ ap is_some (get-set_to m n (Some x) n ∙ ap (λ (b : Bool). cond b (Some x) (get m n)) (same_itself n))

-- what stood at a name of an image may stand there
pub was_right : (items : Items) (n k : Name) (was : Option Item) → AreRight items → was ≡ get items n → k ≡ n → (i : Item) → was ≡ Some i → MayStand k i
was_right items n k was right is same i at = subst (λ (q : Name). MayStand q i) (sym same) (right n i (sym is ∙ at))

pub noted : (items new : Items) (stood filled : Stood) (n key : Name) (o was : Option Item) → key ≡ n → get stood n ≡ None → was ≡ get items n → new ≡ set_to items n o → filled ≡ insert stood key was → before new filled ≡ before items stood
noted items new stood filled n key o was key_is fresh was_is new_is filled_is =
    ap (λ (i : Items). before i filled) new_is
    ∙ ap (before (set_to items n o)) (filled_is ∙ ap (λ (k : Name). insert stood k was) key_is)
    ∙ changed_first items stood n o was fresh was_is

pub marked : (items new : Items) (stood mark filled : Stood) (n key : Name) (o was : Option Item) → key ≡ n → get stood n ≡ None → was ≡ get items n → new ≡ set_to items n o → mark ≡ insert stood n None → filled ≡ insert mark key was
    → before new filled ≡ before items stood
marked items new stood mark filled n key o was key_is fresh was_is new_is mark_is filled_is =
    noted items new stood filled n n o was refl fresh was_is new_is
    (filled_is ∙ ap (λ (s : Stood). insert s key was) mark_is ∙ ap (λ (k : Name). insert (insert stood n None) k was) key_is ∙ noted_again stood n None was)

pub returned : (items set new : Items) (n key : Name) (o was : Option Item) → key ≡ n → was ≡ get items n → set ≡ set_to items n o → new ≡ set_to set key was → new ≡ items
returned items set new n key o was key_is was_is set_is new_is =
    new_is
    ∙ ap (λ (i : Items). set_to i key was) set_is
    ∙ ap (λ (k : Name). set_to (set_to items n o) k was) key_is
    ∙ ap (set_to (set_to items n o) n) was_is
    ∙ set_back items n o

-- what holds holds on an error too
pub on_err : {X E : Type 0} {P : Type 0} → (r : Result X E) → P → OnErr r P
on_err (Ok x) p = tt
on_err (Err e) p = p

pub both_stay : (items new : Items) (stood now : Stood) → new ≡ items → now ≡ stood → before new now ≡ before items stood
both_stay items new stood now new_is now_is = ap (λ (i : Items). before i now) new_is ∙ ap (before items) now_is

pub changed_held : (items new : Items) (stood : Stood) (n : Name) (o : Option Item) → is_some (get stood n) ≡ true → new ≡ set_to items n o → before new stood ≡ before items stood
changed_held items new stood n o held is =
    ap (λ (i : Items). before i stood) is
    ∙ elim (get stood n) as (λ s. get stood n ≡ s → is_some s ≡ true → before (set_to items n o) stood ≡ before items stood) [
      | None ↦ λ at e. absurd cc
      | Some was ↦ λ at e. changed_again items stood n o was at
    ] refl held

-- a name that was changed before is set or not
pub changed_either : {A E : Type 0} → (result : Result A E) (items new : Items) (stood : Stood) (n : Name) (o : Option Item) → is_some (get stood n) ≡ true → OnOk result (new ≡ set_to items n o) → OnErr result (new ≡ items) → before new stood ≡ before items stood
changed_either (Ok x) items new stood n o held ok err = changed_held items new stood n o held ok
changed_either (Err x) items new stood n o held ok err = ap (λ (i : Items). before i stood) err
