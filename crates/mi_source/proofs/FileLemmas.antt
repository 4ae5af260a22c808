-- The files that the program's tree of texts means.
use Rattle.std.proofs.Common.{◌≡◌, ℕ, true, false, List, [], ◌∷◌, ◌++◌, map, length, drop, Option, Some, None, refl, sym, ap, subst, ◌∙◌, Bor}
use Rattle.std.specs.Prelude.{String, nat_eq, MatchOption, if◌then◌else◌}
use Rattle.std.specs.Option.{option_to_list, option_copied}
use Rattle.std.specs.List.{filter_map, starts_with}
use Rattle.std.specs.Str.{IsCharBoundary}
use Rattle.std.specs.Str.Pattern.{FindsTextPrefix, StripsPrefix}
use Rattle.std.proofs.lemmas.List.{map-append}
use Rattle.std.proofs.lemmas.List.Elements.{filter_map-append}
use Rattle.std.proofs.lemmas.Str.Pattern.{starts_text}
use Rattle.mi_source.specs.Paths.{behind, name_in}
use Rattle.std.specs.String.{string_bytes, string_cmp}
use Rattle.std.specs.Map.Iter.{deref}
use Rattle.std.specs.declared.alloc.Global.{Global}
use Rattle.std.specs.Ordering.{nat_cmp}
use Rattle.std.specs.Cmp.Lexicographic.{slice_cmp}
use Rattle.std.specs.FinMap.{keys, entries, get}
use Rattle.std.specs.BTreeMap.{BTreeMap}
use Rattle.std.specs.BTreeMap as tree
use Rattle.std.specs.Map.{lookup}
use Rattle.mi_source.specs.Memory.{pair_of, files_of}
use Rattle.mi_text.specs.Maps.{Name, set_to}
use Rattle.mi_text.proofs.TreeLemmas.{at_as, get-map_as, stored_as, entries-map_as}

abbrev pub Key : Type 0
Key = String Global

-- what stands at a path
pub get-files : (es : List (Key × List ℕ)) (q : Name) → get (files_of es) q ≡ lookup (at_as string_bytes q) es
get-files es q = get-map_as string_bytes es q

-- after bytes are given to the path n
pub stored : (m new : BTreeMap Key (List ℕ)) (n : Name) (w : Option (List ℕ)) → tree.UpdatesBy string_cmp (λ k. slice_cmp nat_cmp n (string_bytes k)) m new w
    → files_of new.entries ≡ set_to (files_of m.entries) n w
stored m new n w u = stored_as string_bytes m new n w u

-- the entries of the tree, in order, are those of the map
pub entries-files : (m : BTreeMap Key (List ℕ)) → tree.IsOrdered string_cmp m → entries (files_of m.entries) ≡ map pair_of m.entries
entries-files m ordered = entries-map_as string_bytes m ordered

paths_read : (ks : List (Bor Key)) → map (λ k. string_bytes k.now) ks ≡ map string_bytes (map deref ks)
paths_read [] = refl
paths_read (k ∷ ks) = ap (λ (ns : List Name). string_bytes k.now ∷ ns) (paths_read ks)

paths_paired : (es : List (Key × List ℕ)) → map string_bytes (map (λ (e : Key × List ℕ). e.0) es) ≡ map (λ (e : Name × List ℕ). e.0) (map pair_of es)
paths_paired [] = refl
paths_paired (e ∷ es) = ap (λ (ns : List Name). string_bytes e.0 ∷ ns) (paths_paired es)

-- the paths that were read are the keys of the map
pub paths_all : (m : BTreeMap Key (List ℕ)) (ks : List (Bor Key)) → tree.IsOrdered string_cmp m → map deref ks ≡ tree.keys m → map (λ k. string_bytes k.now) ks ≡ keys (files_of m.entries)
paths_all m ks ordered is = paths_read ks ∙ ap (map string_bytes) is ∙ paths_paired m.entries ∙ ap (map (λ (e : Name × List ℕ). e.0)) (sym (entries-files m ordered))

-- one path more
pub names_more : (folder : Name) (ks : List (Bor Key)) (k : Bor Key) (names : List Name) → names ≡ filter_map (name_in folder) (map (λ k. string_bytes k.now) ks)
    → names ++ option_to_list (name_in folder (string_bytes k.now)) ≡ filter_map (name_in folder) (map (λ k. string_bytes k.now) (ks ++ k ∷ []))
names_more folder ks k names so_far =
    sym (ap (filter_map (name_in folder)) (map-append (λ (k : Bor Key). string_bytes k.now) ks (k ∷ []))
    ∙ filter_map-append (name_in folder) (map (λ k. string_bytes k.now) ks) (string_bytes k.now ∷ [])
    ∙ ap (λ (front : List Name). front ++ filter_map (name_in folder) (string_bytes k.now ∷ [])) (sym so_far)
    ∙ ap (λ (more : List Name). names ++ more) (alone (name_in folder (string_bytes k.now)) refl))
  where
    alone : (o : Option Name) → name_in folder (string_bytes k.now) ≡ o → filter_map (name_in folder) (string_bytes k.now ∷ []) ≡ option_to_list (name_in folder (string_bytes k.now))
    alone None is = rw is refl
    alone (Some name) is = rw is refl

-- what `strip_prefix` at a text answers
pub stripped : (n s : List ℕ) (r : Option (Bor (List ℕ))) → MatchOption r (FindsTextPrefix n s None) (λ x. StripsPrefix (FindsTextPrefix n) s x.now) → option_copied r ≡ behind n s
stripped n s None h =
    let off : false ≡ starts_with nat_eq s n = starts_text false n s h in
    sym (ap (λ b. if b then Some (drop (length n) s) else None) (sym off))
stripped n s (Some x) h =
    let on : true ≡ starts_with nat_eq s n = starts_text true n s (h.0, h.1, subst (IsCharBoundary s) (sym h.1.0) h.1.2) in
    let is : x.now ≡ drop (length n) s = h.2 ∙ ap (λ k. drop k s) h.1.0 in
    ap Some is ∙ ap (λ b. if b then Some (drop (length n) s) else None) on
