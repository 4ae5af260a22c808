-- Numbers that are gathered in a set: each once and in order.
use Rattle.std.proofs.Common.{◌≡◌, ℕ, ◌+◌, ◌<◌, Bor, length, take, get_or, arith, Bool, true, false, cond, List, [], ◌∷◌, ◌++◌, map, Option, Some, None, refl, sym, ap, ◌∙◌}
use Rattle.std.specs.List.{filter_map, cons_option}
use Rattle.std.proofs.lemmas.List.{append-nil, get_or_default}
use Rattle.std.proofs.lemmas.List.Elements.{filter_map-append}
use Rattle.std.specs.Ordering.{nat_cmp, eq_by_cmp, match_ordering}
use Rattle.std.specs.declared.cmp.Ordering.TheVariants.{Less, Equal, Greater}
use Rattle.std.specs.FinMap.{insert, keys, entries, from_entries, same_map, nat_cmp-IsAntisymmetric, get-from_entries, get-insert, entries-insert, len-entries, len-empty}
use Rattle.std.specs.FinMap.Entries.{find, put, by_order}
use Rattle.std.specs.Cmp.{nat_cmp_total}
use Rattle.mi_rows.proofs.ListLemmas.{map_done_item}
use Rattle.mi_model.specs.FileVersions.{rising}
use Rattle.mi_file_rows.specs.Languages.{with_number}
use Rattle.std.specs.BTreeSet.{insert_key}

abbrev marks : List ℕ → List (ℕ × Unit {0})
marks ns = map (λ n. (n, tt {0})) ns

either : (a b : Bool) (o : Option (Unit {0})) → cond a (Some tt) (cond b (Some tt) o) ≡ cond b (Some tt) (cond a (Some tt) o)
either true true o = refl
either true false o = refl
either false b o = refl

find_more : (ns : List ℕ) (n q : ℕ) → find nat_cmp q (marks (ns ++ n ∷ [])) ≡ cond (eq_by_cmp nat_cmp q n) (Some tt) (find nat_cmp q (marks ns))
find_more [] n q = refl
find_more (x ∷ ns) n q = ap (λ (o : Option (Unit {0})). cond (eq_by_cmp nat_cmp q x) (Some tt) o) (find_more ns n q) ∙ either (eq_by_cmp nat_cmp q x) (eq_by_cmp nat_cmp q n) (find nat_cmp q (marks ns))

one_more : (ns : List ℕ) (n : ℕ) → from_entries {R = nat_cmp} (marks (ns ++ n ∷ [])) ≡ insert (from_entries (marks ns)) n tt
one_more ns n = same_map nat_cmp_total nat_cmp-IsAntisymmetric _ _ (λ q.
    get-from_entries nat_cmp_total (marks (ns ++ n ∷ [])) q ∙ find_more ns n q
    ∙ sym (get-insert nat_cmp_total (from_entries (marks ns)) n tt q ∙ ap (λ (o : Option (Unit {0})). cond (eq_by_cmp nat_cmp q n) (Some tt) o) (get-from_entries nat_cmp_total (marks ns) q)))

keys_put : (k : ℕ) (v : Unit {0}) (es : List (ℕ × Unit {0})) → map (λ (e : ℕ × Unit {0}). e.0) (put nat_cmp k v es) ≡ insert_key nat_cmp (map (λ (e : ℕ × Unit {0}). e.0) es) k
keys_put k v [] = refl
keys_put k v (e ∷ es) = elim (nat_cmp k e.0) as (λ o. map (λ (e : ℕ × Unit {0}). e.0) (by_order o ((k, v) ∷ e ∷ es) ((e.0, v) ∷ es) (e ∷ put nat_cmp k v es))
    ≡ match_ordering o (k ∷ e.0 ∷ map (λ (e : ℕ × Unit {0}). e.0) es) (e.0 ∷ map (λ (e : ℕ × Unit {0}). e.0) es) (e.0 ∷ insert_key nat_cmp (map (λ (e : ℕ × Unit {0}). e.0) es) k)) [
      | Less ↦ refl
      | Equal ↦ refl
      | Greater ↦ ap (λ (ks : List ℕ). e.0 ∷ ks) (keys_put k v es)
    ]

pub rising_more : (ns : List ℕ) (n : ℕ) → rising (ns ++ n ∷ []) ≡ insert_key nat_cmp (rising ns) n
rising_more ns n =
    ap keys (one_more ns n)
    ∙ ap (map (λ (e : ℕ × Unit {0}). e.0)) (entries-insert nat_cmp_total (from_entries {R = nat_cmp} (marks ns)) n tt)
    ∙ keys_put n tt (entries (from_entries {R = nat_cmp} (marks ns)))

-- the number of one text more, where it spells one
module _ (f : List ℕ → Option ℕ) where
  mapped_more : (xs : List (List ℕ)) (x : List ℕ) → rising (filter_map f (xs ++ x ∷ [])) ≡ with_number (rising (filter_map f xs)) (f x)
  mapped_more xs x = ap rising (filter_map-append f xs (x ∷ [])) ∙ by (f x)
    where
      by : (o : Option ℕ) → rising (filter_map f xs ++ cons_option o []) ≡ with_number (rising (filter_map f xs)) o
      by None = ap rising (append-nil (filter_map f xs))
      by (Some n) = rising_more (filter_map f xs) n

  pub rising_next : (parts : List (Bor (List ℕ))) (i : ℕ) (part : Bor (List ℕ)) → part ≡ get_or parts i part → i < length parts
      → rising (filter_map f (take (i + 1) (map (λ b. b.now) parts))) ≡ with_number (rising (filter_map f (take i (map (λ b. b.now) parts)))) (f part.now)
  rising_next parts i part is lt = ap (λ (ts : List (List ℕ)). rising (filter_map f ts)) (map_done_item (λ (b : Bor (List ℕ)). b.now) parts i part is lt) ∙ mapped_more (take i (map (λ b. b.now) parts)) part.now

  -- the same by what a call has made of the numbers
  pub numbers_step : (parts : List (Bor (List ℕ))) (i : ℕ) (d : Bor (List ℕ)) (old new : List ℕ) → i < length parts → new ≡ with_number old (f (get_or parts i d).now) → old ≡ rising (filter_map f (take i (map (λ b. b.now) parts)))
      → new ≡ rising (filter_map f (take (i + 1) (map (λ b. b.now) parts)))
  numbers_step parts i d old new lt made so =
      made ∙ ap (λ (ns : List ℕ). with_number ns (f (get_or parts i d).now)) so ∙ sym (rising_next parts i (get_or parts i d) (get_or_default parts i d (get_or parts i d) lt) lt)

of_length : {X : Type 0} (xs : List X) → length xs ≡ 0 → xs ≡ []
of_length [] e = refl
of_length (x ∷ xs) e = absurd (omega arith)

pub rising_none : rising [] ≡ []
rising_none = ap (map (λ (e : ℕ × Unit {0}). e.0)) (of_length (entries (from_entries {R = nat_cmp} (marks []))) (sym (len-entries (from_entries {R = nat_cmp} (marks []))) ∙ len-empty nat_cmp (Unit {0})))
