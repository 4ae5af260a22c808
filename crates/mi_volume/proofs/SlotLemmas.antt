-- What slots show at a name.
use Rattle.std.proofs.Common.{◌≡◌, ℕ, Bool, true, false, cond, List, [], ◌∷◌, map, Option, Some, None, refl, sym, ap, subst, ◌∙◌}
use Rattle.std.specs.Prelude.{option_and_then, option_map, unwrap_or, is_some, filter}
use Rattle.std.specs.FinMap.{get, find, get-from_entries, get-empty}
use Rattle.std.specs.BTreeMap.{BTreeMap, Updates, WritesThrough, is_at}
use Rattle.std.specs.Map.Calls.{RetainsPairs}
use Rattle.std.proofs.lemmas.Map.Entries.{lookup-filter-keys}
use Rattle.std.proofs.lemmas.Map.Made.{lookup-map_values}
use Rattle.std.specs.Cmp.{eq_by_cmp_equiv}
use Rattle.mi_text.specs.Maps.{Name, name_cmp, same_name}
use Rattle.mi_text.proofs.MapLemmas.{names_total, from_same, get-set_to}
use Rattle.mi_volume.specs.Maps.{Map}
use Rattle.mi_volume.specs.Kept.{Kept}
use Rattle.mi_volume.specs.Slots.{was, map_of, at_name, before_of, kept_of, Sets}
use Rattle.mi_volume.specs.declared.before.Before.{Before}

find_at : {X : Type 0} → (es : List (Name × X)) (q : Name) → find name_cmp q es ≡ at_name es q
find_at [] q = refl
find_at (e ∷ es) q = ap (cond (same_name q e.0) (Some e.1)) (find_at es q)

pub get-map_of : {X : Type 0} → (es : List (Name × X)) (q : Name) → get (map_of es) q ≡ at_name es q
get-map_of es q = get-from_entries names_total es q ∙ find_at es q

-- what a slot shows, as what the name holds now says
abbrev pub shown : Map → Name → Option Before → Option (Option (List ℕ))
shown held q slot = option_and_then (λ b. was b (get held q)) slot

pub get-before_of : (held : Map) (es : List (Name × Before)) (q : Name) → get (before_of held es) q ≡ shown held q (at_name es q)
get-before_of held [] q = get-empty name_cmp q
get-before_of held (e ∷ es) q =
    get-set_to (before_of held es) e.0 (was e.1 (get held e.0)) q
    ∙ elim (same_name q e.0) as (λ b. same_name q e.0 ≡ b → cond b (was e.1 (get held e.0)) (get (before_of held es) q) ≡ shown held q (cond b (Some e.1) (at_name es q))) [
      | true ↦ λ same. ap (λ (n : Name). was e.1 (get held n)) (sym (from_same q e.0 same))
      | false ↦ λ other. get-before_of held es q
    ] refl

pub turned : (q n : Name) → same_name n q ≡ same_name q n
turned q n = (eq_by_cmp_equiv names_total).symm n q

-- a tree after a change at one key
pub sets : {X : Type 0} → (m n : BTreeMap Name X) (name : Name) (x : Option X) → Updates name_cmp m n name x → Sets name x m.entries n.entries
sets m n name x update q = update.0 q ∙ ap (λ b. cond b x (at_name m.entries q)) (turned q name)

-- a change to what stands there already
pub sets_same : {X : Type 0} → (es : List (Name × X)) (name : Name) (x : Option X) → x ≡ at_name es name → Sets name x es es
sets_same es name x is q =
    elim (same_name q name) as (λ b. same_name q name ≡ b → at_name es q ≡ cond b x (at_name es q)) [
      | true ↦ λ same. ap (at_name es) (from_same q name same) ∙ sym is
      | false ↦ λ other. refl
    ] refl

-- a tree after a value was written through a borrow
pub sets_through : {X : Type 0} → (m n : BTreeMap Name X) (name : Name) (x w : X) → Some x ≡ at_name m.entries name → WritesThrough name_cmp (name_cmp name) m w n → Sets name (Some w) m.entries n.entries
sets_through m n name x w there through = sets m n name (Some w) (through.3 (ap is_some (sym there)))

-- what `retain` keeps, where the closure answers by the key and writes one value
pub kept_of_retain : {F K X : Type 0} → (T : F → K → X → Bool → X → F → Type 0) (p : K → Bool) (x : X) (f : F)
    → ((k : K) (v : X) (b : Bool) (w : X) (g : F) → T f k v b w g → (b ≡ p k) × (w ≡ x) × (g ≡ f))
    → (es kept : List (K × X)) → RetainsPairs T f es kept → kept ≡ map (λ e. (e.0, x)) (filter (λ e. p e.0) es)
kept_of_retain {F} {K} {X} T p x f step [] kept is = is
kept_of_retain {F} {K} {X} T p x f step (e ∷ es) kept r =
    let s = step e.0 e.1 r.0 r.1 r.2 r.4 in
    let rest = kept_of_retain T p x f step es r.3 (subst (λ g. RetainsPairs T g es r.3) s.2 r.5) in
    r.6 ∙ ap (λ b. cond b ((e.0, r.1) ∷ r.3) r.3) s.0 ∙ both (p e.0) r.1 s.1 r.3 rest
  where
    both : (b : Bool) (w : X) → w ≡ x → (l : List (K × X)) → l ≡ map (λ e. (e.0, x)) (filter (λ e. p e.0) es) → cond b ((e.0, w) ∷ l) l ≡ map (λ e. (e.0, x)) (cond b (e ∷ filter (λ e. p e.0) es) (filter (λ e. p e.0) es))
    both true w is l same = cc
    both false w is l same = same

pub at-kept : {X : Type 0} → (p : Name → Bool) (x : X) (es : List (Name × X)) (q : Name) → at_name (map (λ e. (e.0, x)) (filter (λ e. p e.0) es)) q ≡ cond (p q) (option_map (λ _. x) (at_name es q)) None
at-kept p x es q =
    lookup-map_values (λ _. x) (is_at (name_cmp q)) (filter (λ e. p e.0) es)
    ∙ ap (option_map (λ _. x)) (lookup-filter-keys (is_at (name_cmp q)) p (p q) (λ k same. ap p (sym (from_same q k same))) es)
    ∙ elim (p q) as (λ b. option_map (λ _. x) (cond b (at_name es q) None) ≡ cond b (option_map (λ _. x) (at_name es q)) None) [ true ↦ refl | false ↦ refl ]

-- a slot that is made where there is none
pub is_none_of : {X : Type 0} → (o : Option X) (b : Bool) → b ≡ is_some o → b ≡ false → o ≡ None
is_none_of None b is absent = refl
is_none_of (Some x) b is absent = cc

pub or_there : {X : Type 0} → (o : Option X) (x : X) (b : Bool) → b ≡ is_some o → b ≡ true → Some (unwrap_or o x) ≡ o
or_there None x b is there = cc
or_there (Some y) x b is there = refl

-- what is held in the trees, as what is kept says
pub held_at : (h : List (Name × List ℕ)) (es : List (Name × Before)) (k : Kept) (name : Name) (o : Option (List ℕ)) → kept_of h es ≡ k → o ≡ at_name h name → get k.held name ≡ o
held_at h es k name o is at = sym (at ∙ sym (get-map_of h name) ∙ ap (λ (k : Kept). get k.held name) is)

-- a change of what is there keeps the names
pub same_names : {X : Type 0} → (es new : List (Name × X)) (name : Name) (x w : X) → Some x ≡ at_name es name → Sets name (Some w) es new → (q : Name) → is_some (at_name new q) ≡ is_some (at_name es q)
same_names es new name x w there sets q =
    ap is_some (sets q) ∙ elim (same_name q name) as (λ b. same_name q name ≡ b → is_some (cond b (Some w) (at_name es q)) ≡ is_some (at_name es q)) [
      | true ↦ λ e. ap is_some there ∙ ap (λ n. is_some (at_name es n)) (sym (from_same q name e))
      | false ↦ λ e. refl
    ] refl
