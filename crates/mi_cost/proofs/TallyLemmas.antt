-- What is noted of records: their names, and the greatest sizes that they state.
use Rattle.std.proofs.Common.{◌≡◌, ℕ, ◌+◌, Bool, true, false, cond, ◌||◌, List, [], ◌∷◌, ◌++◌, map, Option, Some, refl, sym, ap, ◌∙◌, arith}
use Rattle.std.specs.Prelude.{◌&&◌, max, is_some, unwrap_or, fold}
use Rattle.std.specs.List.{list_all}
use Rattle.std.specs.FinMap.{get}
use Rattle.std.proofs.lemmas.List.{map-append}
use Rattle.mi_text.specs.Maps.{Name, same_name, is_among}
use Rattle.mi_text.proofs.MapLemmas.{from_same, get-set_to, is_among-append}
use Rattle.mi_script.specs.declared.rec.Rec.{Rec}
use Rattle.mi_script.specs.Scripts.{name_at}
use Rattle.mi_model.specs.StatedSizes.{stated_size, all_records, greatest_stated, entries_in}
use Rattle.mi_cost.specs.Tallies.{Sizes, size_in, is_known, with_record, with_records, are_known, Tally, with_script}
use Rattle.mi_cost.proofs.NameLemmas.{all_alike}

-- ---- the names of records

known_one : (sizes : Sizes) (r : Rec) (q : Name) → is_known (with_record sizes r) q ≡ (same_name q (name_at r) || is_known sizes q)
known_one sizes r q = ap is_some (get-set_to sizes (name_at r) (Some (max (size_in sizes (name_at r)) (stated_size r))) q) ∙ by_name (same_name q (name_at r)) _ (get sizes q)
  where
    by_name : (b : Bool) (x : ℕ) (o : Option ℕ) → is_some (cond b (Some x) o) ≡ (b || is_some o)
    by_name true x o = refl
    by_name false x o = refl

known_are : (sizes : Sizes) (rs : List Rec) (q : Name) → is_known (with_records sizes rs) q ≡ (is_known sizes q || is_among q (map name_at rs))
known_are sizes [] q = whole (is_known sizes q)
  where
    whole : (b : Bool) → b ≡ (b || false)
    whole true = refl
    whole false = refl
known_are sizes (r ∷ rs) q =
    known_are (with_record sizes r) rs q
    ∙ ap (λ (b : Bool). b || is_among q (map name_at rs)) (known_one sizes r q)
    ∙ moved (same_name q (name_at r)) (is_known sizes q) (is_among q (map name_at rs))
  where
    moved : (a b c : Bool) → ((a || b) || c) ≡ (b || (a || c))
    moved true true c = refl
    moved true false c = refl
    moved false true c = refl
    moved false false c = refl

known_names : (sizes : Sizes) (rs : List Rec) → are_known sizes rs ≡ list_all (is_known sizes) (map name_at rs)
known_names sizes [] = refl
known_names sizes (r ∷ rs) = ap (λ (b : Bool). is_known sizes (name_at r) && b) (known_names sizes rs)

among_records : (q : Name) (rs rest : List Rec) → is_among q (map name_at (rs ++ rest)) ≡ (is_among q (map name_at rs) || is_among q (map name_at rest))
among_records q rs rest = ap (is_among q) (map-append name_at rs rest) ∙ is_among-append q (map name_at rs) (map name_at rest)

-- ---- the sizes that they state

-- a size that one record more states
size_one : (sizes : Sizes) (r : Rec) (q : Name) (rest : ℕ) → max (size_in (with_record sizes r) q) rest ≡ max (size_in sizes q) (cond (same_name q (name_at r)) (max (stated_size r) rest) rest)
size_one sizes r q rest =
    let n = name_at r in
    let size = max (size_in sizes n) (stated_size r) in
    ap (λ (o : Option ℕ). max (unwrap_or o 0) rest) (get-set_to sizes n (Some size) q)
    ∙ elim (same_name q n) as (λ b. same_name q n ≡ b → max (unwrap_or (cond b (Some size) (get sizes q)) 0) rest ≡ max (size_in sizes q) (cond b (max (stated_size r) rest) rest)) [
      | true ↦ λ e. ap (λ (s : ℕ). max (max s (stated_size r)) rest) (ap (size_in sizes) (sym (from_same q n e))) ∙ both (size_in sizes q) (stated_size r) rest
      | false ↦ λ e. refl
    ] refl
  where
    both : (a b c : ℕ) → max (max a b) c ≡ max a (max b c)
    both a b c = omega arith

size_behind : (sizes : Sizes) (rs : List Rec) (q : Name) → size_in (with_records sizes rs) q ≡ max (size_in sizes q) (greatest_stated q rs)
size_behind sizes [] q = omega arith
size_behind sizes (r ∷ rs) q = size_behind (with_record sizes r) rs q ∙ size_one sizes r q (greatest_stated q rs)

greatest_both : (q : Name) (a b : List Rec) → greatest_stated q (a ++ b) ≡ max (greatest_stated q a) (greatest_stated q b)
greatest_both q [] b = omega arith
greatest_both q (r ∷ a) b = by_name (stated_size r) _ _ _ (same_name q (name_at r)) (greatest_both q a b)
  where
    by_name : (s x y z : ℕ) (is : Bool) → x ≡ max y z → cond is (max s x) x ≡ max (cond is (max s y) y) z
    by_name s x y z true e = omega arith
    by_name s x y z false e = e

-- ---- scripts

abbrev pub tallied : Tally → List (List Rec) → Tally
tallied t scripts = fold with_script t scripts

pub known_all : (t : Tally) (scripts : List (List Rec)) (q : Name) → is_known (tallied t scripts).0 q ≡ (is_known t.0 q || is_among q (map name_at (all_records scripts)))
known_all t [] q = whole (is_known t.0 q)
  where
    whole : (b : Bool) → b ≡ (b || false)
    whole true = refl
    whole false = refl
known_all t (rs ∷ scripts) q =
    let rest = all_records scripts in
    known_all (with_script t rs) scripts q
    ∙ ap (λ (b : Bool). b || is_among q (map name_at rest)) (known_are t.0 rs q)
    ∙ either (is_known t.0 q) (is_among q (map name_at rs)) (is_among q (map name_at rest))
    ∙ ap (λ (b : Bool). is_known t.0 q || b) (sym (among_records q rs rest))
  where
    either : (a b c : Bool) → ((a || b) || c) ≡ (a || (b || c))
    either true b c = refl
    either false b c = refl

pub size_all : (t : Tally) (scripts : List (List Rec)) (q : Name) → size_in (tallied t scripts).0 q ≡ max (size_in t.0 q) (greatest_stated q (all_records scripts))
size_all t [] q = omega arith
size_all t (rs ∷ scripts) q =
    let rest = all_records scripts in
    size_all (with_script t rs) scripts q
    ∙ ap (λ (s : ℕ). max s (greatest_stated q rest)) (size_behind t.0 rs q)
    ∙ both (size_in t.0 q) (greatest_stated q rs) (greatest_stated q rest)
    ∙ ap (max (size_in t.0 q)) (sym (greatest_both q rs rest))
  where
    both : (a b c : ℕ) → max (max a b) c ≡ max a (max b c)
    both a b c = omega arith

pub entries_all : (t : Tally) (seen : List Name) (scripts : List (List Rec)) → ((q : Name) → is_known t.0 q ≡ is_among q seen) → (tallied t scripts).1 ≡ t.1 + entries_in seen scripts
entries_all t seen [] alike = omega arith
entries_all t seen (rs ∷ scripts) alike =
    let names = map name_at rs in
    let rest = entries_in (seen ++ names) scripts in
    let here : are_known t.0 rs ≡ list_all (λ q. is_among q seen) names = known_names t.0 rs ∙ all_alike (is_known t.0) (λ q. is_among q seen) names names (λ q. refl) alike in
    entries_all (with_script t rs) (seen ++ names) scripts
    (λ q. known_are t.0 rs q ∙ ap (λ (b : Bool). b || is_among q names) (alike q) ∙ sym (is_among-append q seen names))
    ∙ ap (λ (b : Bool). t.1 + cond b 0 1 + rest) here
    ∙ grouped t.1 (cond (list_all (λ q. is_among q seen) names) 0 1) rest
  where
    grouped : (a b c : ℕ) → a + b + c ≡ a + (b + c)
    grouped a b c = omega arith
