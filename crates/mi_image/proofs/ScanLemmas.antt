-- A scan by the next held name.
use Rattle.std.proofs.Common.{◌≡◌, ℕ, Bool, true, false, cond, ◌&&◌, T, ⊎_elim, List, [], ◌∷◌, length, Option, Some, None, Result, Ok, Err, refl, sym, ap, subst, ◌∙◌}
use Rattle.std.specs.Prelude.{option_map, option_and_then, is_some, is_none, not, find, IsOkAnd, IsErrAnd, IsErrOf}
use Rattle.std.specs.Ordering.{is_lt, is_gt, is_eq, ordering_reverse}
use Rattle.std.specs.declared.cmp.Ordering.TheVariants.{Less, Equal, Greater}
use Rattle.std.specs.FinMap as fin
use Rattle.std.specs.FinMap.Entries.{below_all}
use Rattle.std.specs.FinMap.{get, keys, entries, empty, insert, is_sorted, get-entries, entries_sorted}
use Rattle.mi_text.specs.Maps.{Name, Map, name_cmp, same_name, set_to, tabulated}
use Rattle.mi_text.specs.Next.{is_behind, next_name}
use Rattle.mi_text.proofs.MapLemmas.{names_total, from_same, same_itself, same, get-set_to, get-map_values}
use Rattle.mi_text.proofs.NextLemmas.{next-first, next-none, none_read, one_read, all_read, next-held}
use Rattle.mi_base.specs.declared.entry.Entry.{Entry}
use Rattle.mi_base.specs.declared.entry.Entry.TheVariants as entry
use Rattle.mi_base.specs.declared.entry.FileEntry.{FileEntry}
use Rattle.mi_base.specs.Names.{file_name}
use Rattle.mi_base.specs.Spelling.{name_of, head_of}
use Rattle.mi_base.specs.SpelledMaps.{is_area, spelled_at, is_bad, or_name, spelled_map}
use Rattle.mi_base.specs.Records.{with_bytes}
use Rattle.mi_base.specs.Machine.{Machine, read_entry, machine_of}
use Rattle.mi_base.proofs.SpelledLemmas.{none_bad}
use Rattle.mi_base.proofs.MachineLemmas.{entry_same, machine_is}
use Rattle.mi_image.specs.declared.item.Content.TheVariants.{Own}
use Rattle.mi_image.specs.declared.item.Item.{Item}
use Rattle.mi_image.specs.declared.item.Item.TheVariants.{Head, Whole}
use Rattle.mi_image.specs.Items.{Items, bytes_of_file, bytes_or_none, entry_over, machine_over, HasLength, ImageOf}
use Rattle.mi_image.specs.declared.fault.ImageError.{ImageError}
use Rattle.mi_image.specs.declared.fault.ImageError.TheVariants.{BadImage}
use Rattle.mi_image.specs.Scan.{scanned_item, item_read, item_at, Tells, ReadUpTo}

-- ---- the first name that fails a test

pub head_first : {X : Type 0} → (k q : Name) (es : List (Name × X)) (x : X) → below_all name_cmp k es ≡ true → fin.find name_cmp q es ≡ Some x → name_cmp k q ≡ Less
head_first k q [] x below is = absurd cc
head_first k q (e ∷ es) x below is =
    elim (name_cmp k e.0) as (λ o. name_cmp k e.0 ≡ o → (is_lt o && below_all name_cmp k es) ≡ true → name_cmp k q ≡ Less) [
      | Less ↦ λ o b. elim (same_name q e.0) as (λ t. same_name q e.0 ≡ t → cond t (Some e.1) (fin.find name_cmp q es) ≡ Some x → name_cmp k q ≡ Less) [
        | true ↦ λ t h. ap (name_cmp k) (from_same q e.0 t) ∙ o
        | false ↦ λ t h. head_first k q es x b h
      ] refl is
      | Equal ↦ λ o b. absurd cc
      | Greater ↦ λ o b. absurd cc
    ] refl below

both : (a b : Bool) → (a && b) ≡ true → (a ≡ true) × (b ≡ true)
both true b e = (refl, e)
both false b e = absurd cc

pub apart : (a b : Name) → name_cmp a b ≡ Less → same_name b a ≡ false
apart a b less = ap is_eq (names_total.antisymm b a ∙ ap ordering_reverse less)

-- in a sorted list, where all that stands below k passes and k does not, k is found
first_found : {X : Type 0} → (p : Name × X → Bool) (es : List (Name × X)) (k : Name) (x : X) → is_sorted name_cmp es ≡ true → fin.find name_cmp k es ≡ Some x → p (k, x) ≡ true
    → ((q : Name) (y : X) → fin.find name_cmp q es ≡ Some y → name_cmp q k ≡ Less → p (q, y) ≡ false) → find p es ≡ Some (k, x)
first_found p [] k x sorted at fails passes = absurd cc
first_found {X} p (e ∷ es) k x sorted at fails passes =
    let parts = both (below_all name_cmp e.0 es) (is_sorted name_cmp es) sorted in
    elim (same_name k e.0) as (λ t. same_name k e.0 ≡ t → cond t (Some e.1) (fin.find name_cmp k es) ≡ Some x → find p (e ∷ es) ≡ Some (k, x)) [
      | true ↦ λ t h.
          let name : k ≡ e.0 = from_same k e.0 t in
          let value : e.1 ≡ x = cc in
          let here : (k, x) ≡ e = ap (λ (n : Name). (n, x)) name ∙ ap (λ (y : X). (e.0, y)) (sym value) in
          let fails_here : p e ≡ true = ap p (sym here) ∙ fails in
          rw fails_here (ap (λ (y : Name × X). Some y) (sym here))
      | false ↦ λ t h.
          let less : name_cmp e.0 k ≡ Less = head_first e.0 k es x parts.0 h in
          let here : fin.find name_cmp e.0 (e ∷ es) ≡ Some e.1 = ap (λ (b : Bool). cond b (Some e.1) (fin.find name_cmp e.0 es)) (same_itself e.0) in
          let passes_here : p e ≡ false = passes e.0 e.1 here less in
          rw passes_here (first_found p es k x parts.1 h fails (λ q y is below.
          passes q y (ap (λ (b : Bool). cond b (Some e.1) (fin.find name_cmp q es)) (apart e.0 q (head_first e.0 q es y parts.0 is)) ∙ is) below))
    ] refl at

true_of : (b : Bool) → T b → b ≡ true
true_of true t = refl
true_of false t = absurd t

first_of : {X : Type 0} → (p : Name × X → Bool) (m : Map X) (k : Name) (x : X) → get m k ≡ Some x → p (k, x) ≡ true → ((q : Name) (y : X) → get m q ≡ Some y → name_cmp q k ≡ Less → p (q, y) ≡ false) → find p (entries m) ≡ Some (k, x)
first_of p m k x at fails passes = first_found p (entries m) k x (true_of _ (entries_sorted m)) (sym (get-entries m k) ∙ at) fails (λ q y is less. passes q y (get-entries m q ∙ is) less)

-- ---- what the map says

unheld : (d : Map (List ℕ)) (q : Name) → get d q ≡ None → item_at d q ≡ None
unheld d q at = ap (λ (o : Option (List ℕ)). option_map scanned_item (cond (is_area q) None (option_and_then (read_entry q) o))) at ∙ either (is_area q)
  where
    either : (b : Bool) → option_map scanned_item (cond b None None) ≡ None
    either true = refl
    either false = refl

held_item : (d : Map (List ℕ)) (q : Name) (bytes : List ℕ) → get d q ≡ Some bytes → is_area q ≡ false → item_at d q ≡ item_read q bytes
held_item d q bytes at free = ap (λ (o : Option (List ℕ)). option_map scanned_item (cond (is_area q) None (option_and_then (read_entry q) o))) at ∙ ap (λ b. option_map scanned_item (cond b None (read_entry q bytes))) free

area_item : (d : Map (List ℕ)) (q : Name) → is_area q ≡ true → item_at d q ≡ None
area_item d q area = ap (λ b. option_map scanned_item (cond b None (option_and_then (read_entry q) (get d q)))) area

no_item : (q : Name) (o : Option Entry) → option_map scanned_item o ≡ None → is_none o ≡ true
no_item q None is = refl
no_item q (Some e) is = absurd cc

one_item : (q : Name) (o : Option Entry) (i : Item) → option_map scanned_item o ≡ Some i → is_none o ≡ false
one_item q None i is = absurd cc
one_item q (Some e) i is = refl

-- ---- steps

pub begun : (d : Map (List ℕ)) → ReadUpTo d None empty
begun d = record { items_are = none_read (item_at d); good = λ q bytes at behind. absurd cc }

-- what isn't behind a name that came next is that name, or wasn't behind the last one
good_then : (d : Map (List ℕ)) (after : Option Name) (k : Name) (bytes : List ℕ) → next_name d after ≡ Some k → get d k ≡ Some bytes → is_bad read_entry (k, bytes) ≡ false
    → ((q : Name) (b : List ℕ) → get d q ≡ Some b → is_behind after q ≡ false → is_bad read_entry (q, b) ≡ false)
    → (q : Name) (b : List ℕ) → get d q ≡ Some b → is_behind (Some k) q ≡ false → is_bad read_entry (q, b) ≡ false
good_then d after k bytes next here good_here good q b at behind =
    elim (is_behind after q) as (λ t. is_behind after q ≡ t → is_bad read_entry (q, b) ≡ false) [
      | true ↦ λ t. ⊎_elim
          (λ same_k. let name : q ≡ k = from_same q k same_k in
          let value : b ≡ bytes = (let both_at : Some b ≡ Some bytes = sym at ∙ ap (get d) name ∙ here in cc) in
          ap (λ (n : Name). is_bad read_entry (n, b)) name ∙ ap (λ (x : List ℕ). is_bad read_entry (k, x)) value ∙ good_here)
          (λ later. absurd cc)
          (next-first d after k q b next at t)
      | false ↦ λ t. good q b at t
    ] refl

pub bytes_held : (d : Map (List ℕ)) (after : Option Name) (k : Name) → next_name d after ≡ Some k → get d k ≡ Some (bytes_or_none (get d k))
bytes_held d after k next = by_held (get d k) (next-held d after k next)
  where
    by_held : (o : Option (List ℕ)) → is_some o ≡ true → o ≡ Some (bytes_or_none o)
    by_held None is = absurd cc
    by_held (Some b) is = refl

behind_next : (d : Map (List ℕ)) (after : Option Name) (k : Name) → next_name d after ≡ Some k → is_behind after k ≡ true
behind_next d after k next = passes_at (is_behind after) (keys d) k next
  where
    passes_at : (p : Name → Bool) (ks : List Name) (k : Name) → find p ks ≡ Some k → p k ≡ true
    passes_at p [] k at = absurd cc
    passes_at p (n ∷ ks) k at = elim (p n) as (λ b. p n ≡ b → cond b (Some n) (find p ks) ≡ Some k → p k ≡ true) [ true ↦ λ b h. let here : n ≡ k = cc in ap p (sym here) ∙ b | false ↦ λ b h. passes_at p ks k h ] refl at

-- a name of the rollback area is passed over
pub area_read : (d : Map (List ℕ)) (after : Option Name) (k : Name) (image : Items) → next_name d after ≡ Some k → is_area k ≡ true → ReadUpTo d after image → ReadUpTo d (Some k) image
area_read d after k image next area so_far = record {
  items_are = λ q. sym (unset q) ∙ one_read d (item_at d) after k image (unheld d) next so_far.items_are q;
  good = good_then d after k (bytes_or_none (get d k)) next (bytes_held d after k next) (ap (λ b. not b && is_none (read_entry k (bytes_or_none (get d k)))) area) so_far.good;
}
  where
    nothing_there : get image k ≡ None
    nothing_there = so_far.items_are k ∙ ap (λ b. cond b None (item_at d k)) (behind_next d after k next)

    unset : (q : Name) → get (set_to image k (item_at d k)) q ≡ get image q
    unset q = get-set_to image k (item_at d k) q
        ∙ elim (same_name q k) as (λ b. same_name q k ≡ b → cond b (item_at d k) (get image q) ≡ get image q) [
          | true ↦ λ e. area_item d k area ∙ sym (ap (get image) (from_same q k e) ∙ nothing_there)
          | false ↦ λ e. refl
        ] refl

-- an item that is read is added
pub item_added : (d : Map (List ℕ)) (after : Option Name) (k : Name) (i : Item) (image new : Items) → next_name d after ≡ Some k → is_area k ≡ false → item_read k (bytes_or_none (get d k)) ≡ Some i → new ≡ insert image k i
    → ReadUpTo d after image → ReadUpTo d (Some k) new
item_added d after k i image new next free is set so_far =
    let held = bytes_held d after k next in
    let here : item_at d k ≡ Some i = held_item d k (bytes_or_none (get d k)) held free ∙ is in
    record {
      items_are = λ q. ap (λ (m : Items). get m q) (set ∙ sym (ap (set_to image k) here)) ∙ one_read d (item_at d) after k image (unheld d) next so_far.items_are q;
      good = good_then d after k (bytes_or_none (get d k)) next held (ap (λ b. not (is_area k) && b) (one_item k (read_entry k (bytes_or_none (get d k))) i is) ∙ never (not (is_area k))) so_far.good;
    }
  where
    never : (b : Bool) → (b && false) ≡ false
    never true = refl
    never false = refl

-- ---- the end

-- the first name that isn't spelled
pub bad_read : (d : Map (List ℕ)) (after : Option Name) (k : Name) (image : Items) → next_name d after ≡ Some k → is_area k ≡ false → item_read k (bytes_or_none (get d k)) ≡ None → ReadUpTo d after image → machine_of d ≡ Err k
unfolding spelled_map
bad_read d after k image next free is so_far =
    ap (λ o. or_name read_entry o (tabulated (spelled_at read_entry d) (keys d)))
    (first_of (is_bad read_entry) d k (bytes_or_none (get d k)) (bytes_held d after k next)
    (ap (λ b. not b && is_none (read_entry k (bytes_or_none (get d k)))) free ∙ no_item k (read_entry k (bytes_or_none (get d k))) is)
    (λ q b at less. so_far.good q b at (elim (is_behind after q) as (λ t. is_behind after q ≡ t → t ≡ false) [
      | true ↦ λ t. ⊎_elim (λ same_k. let no = apart q k less in let turn : same_name k q ≡ true = ap (λ (n : Name). same_name k n) (from_same q k same_k) ∙ same_itself k in absurd cc) (λ later. let clash : is_gt (name_cmp q k) ≡ false = ap is_gt less in absurd cc) (next-first d after k q b next at t)
      | false ↦ λ t. refl
    ] refl)))

all_good : (d : Map (List ℕ)) (after : Option Name) (image : Items) → next_name d after ≡ None → ReadUpTo d after image → machine_of d ≡ Ok (tabulated (spelled_at read_entry d) (keys d))
unfolding spelled_map
all_good d after image next so_far =
    ap (λ o. or_name read_entry o (tabulated (spelled_at read_entry d) (keys d)))
    (none_bad (is_bad read_entry) d (λ q b at. so_far.good q b at (next-none d after q b next at)))

-- what a name spells stands at its own name
abbrev OwnName : Map (List ℕ) → Name → Type 0
OwnName d q = (e : Entry) → spelled_at read_entry d q ≡ Some e → name_of e ≡ q

own_bytes : (d : Map (List ℕ)) (q : Name) (f : FileEntry) → OwnName d q → spelled_at read_entry d q ≡ Some (entry.File f) → bytes_of_file (spelled_at read_entry d (file_name f.shown)) ≡ f.bytes
own_bytes d q f own at = ap (λ (n : Name). bytes_of_file (spelled_at read_entry d n)) (own (entry.File f) at) ∙ ap bytes_of_file at

over : (d files : Map (List ℕ)) (q : Name) (o : Option Entry) → OwnName d q → spelled_at read_entry d q ≡ o → option_map (entry_over d files) (option_map scanned_item o) ≡ o
over d files q None own at = refl
over d files q (Some (entry.File f)) own at = ap (λ (bytes : List ℕ). Some (entry.File (with_bytes (head_of f) bytes))) (own_bytes d q f own at)
over d files q (Some (entry.Folder t)) own at = refl
over d files q (Some (entry.Value k v)) own at = refl
over d files q (Some (entry.Key r t)) own at = refl
over d files q (Some (entry.Shortcut s)) own at = refl
over d files q (Some (entry.Variable v)) own at = refl
over d files q (Some (entry.Client c)) own at = refl
over d files q (Some (entry.Product p)) own at = refl
over d files q (Some (entry.System p t)) own at = refl

has_length : (d files : Map (List ℕ)) (q : Name) (o : Option Entry) (i : Item) → OwnName d q → spelled_at read_entry d q ≡ o → option_map scanned_item o ≡ Some i → HasLength d files i
has_length d files q None i own at is = absurd cc
has_length d files q (Some (entry.File f)) i own at is =
    let item : Head (head_of f) Own ≡ i = cc in
    subst (HasLength d files) item (ap length (own_bytes d q f own at))
has_length d files q (Some (entry.Folder t)) i own at is = let item : Whole (entry.Folder t) ≡ i = cc in subst (HasLength d files) item tt
has_length d files q (Some (entry.Value k v)) i own at is = let item : Whole (entry.Value k v) ≡ i = cc in subst (HasLength d files) item tt
has_length d files q (Some (entry.Key r t)) i own at is = let item : Whole (entry.Key r t) ≡ i = cc in subst (HasLength d files) item tt
has_length d files q (Some (entry.Shortcut s)) i own at is = let item : Whole (entry.Shortcut s) ≡ i = cc in subst (HasLength d files) item tt
has_length d files q (Some (entry.Variable v)) i own at is = let item : Whole (entry.Variable v) ≡ i = cc in subst (HasLength d files) item tt
has_length d files q (Some (entry.Client c)) i own at is = let item : Whole (entry.Client c) ≡ i = cc in subst (HasLength d files) item tt
has_length d files q (Some (entry.Product p)) i own at is = let item : Whole (entry.Product p) ≡ i = cc in subst (HasLength d files) item tt
has_length d files q (Some (entry.System p t)) i own at is = let item : Whole (entry.System p t) ≡ i = cc in subst (HasLength d files) item tt

image_is : (d files : Map (List ℕ)) (m : Machine) (image : Items) → machine_of d ≡ Ok m → ((q : Name) → get image q ≡ item_at d q) → ImageOf d files image m
unfolding machine_over
image_is d files m image is at = record {
  stands = same _ _ (λ q.
      get-map_values (entry_over d files) image q
      ∙ ap (option_map (entry_over d files)) (at q)
      ∙ over d files q (spelled_at read_entry d q) (own q) refl
      ∙ sym (entry_same d m is q));
  there = λ q i here. has_length d files q (spelled_at read_entry d q) i (own q) refl (sym (at q) ∙ here);
}
  where
    own : (q : Name) → OwnName d q
    own q e at = (machine_is d m is q e (entry_same d m is q ∙ at)).0

-- where no name comes next, the image stands for the machine
pub image_read : (d files : Map (List ℕ)) (after : Option Name) (image : Items) → next_name d after ≡ None → ReadUpTo d after image → IsOkAnd (machine_of d) (ImageOf d files image)
image_read d files after image next so_far =
    let is = all_good d after image next so_far in
    subst (λ r. IsOkAnd r (ImageOf d files image)) (sym is) (image_is d files (tabulated (spelled_at read_entry d) (keys d)) image is (all_read d (item_at d) after image (unheld d) next so_far.items_are))

-- an answer that is handed on says which name isn't spelled
pub bad_answer : {T : Type 0} → (d : Map (List ℕ)) (after : Option Name) (k n : Name) (image : Items) (handed : Result T ImageError) (e : ImageError) → next_name d after ≡ Some k → is_area k ≡ false
    → IsErrAnd handed (λ x. x ≡ e) → IsErrOf handed (BadImage n) → Tells k (bytes_or_none (get d k)) (Err e) → ReadUpTo d after image → machine_of d ≡ Err n
bad_answer d after k n image (Ok x) e next free on is tells so_far = absurd (cc)
bad_answer d after k n image (Err x) e next free on is tells so_far =
    let bad : e ≡ BadImage n = cc in
    let told : Tells k (bytes_or_none (get d k)) (Err (BadImage n)) = subst (λ (y : ImageError). Tells k (bytes_or_none (get d k)) (Err y)) bad tells in
    bad_read d after k image next free told.1 so_far ∙ ap (λ (m : Name). Err m) (sym told.0)
