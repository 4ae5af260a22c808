-- A binary search in a table whose keys rise.
use Rattle.std.proofs.Common.{◌≡◌, ℕ, ◌<◌, ◌≤◌, List, length, get_or, Some, None, refl, sym, ap, ◌∙◌, subst, ◌⊎◌, ⊎_elim, arith}
use Rattle.std.proofs.Math.ListN.{get_or-map}
use Rattle.std.specs.Ordering.{ordering_reverse, ordering_index}
use Rattle.std.specs.declared.cmp.Ordering.{Ordering}
use Rattle.std.specs.declared.cmp.Ordering.TheVariants.{Less, Equal, Greater}
use Rattle.std.specs.Cmp.{eq_by_cmp_equiv}
use Rattle.std.specs.Map.{keys_of, lookup}
use Rattle.std.specs.List.Sorted.{IsNonDecreasingBy, IsPartitionPoint}
use Rattle.std.proofs.lemmas.Option.{slice_get-get_or, slice_get_within, get_or_from_slice_get}
use Rattle.std.proofs.lemmas.Map.Keys.{IsDistinct-from_sorted, Less-from_sorted}
use Rattle.std.proofs.lemmas.Map.Entries.{lookup_from_place, lookup_at_gap, length-keys_of}
use Rattle.mi_text.specs.Maps.{Name, name_cmp, same_name}
use Rattle.mi_text.specs.Folded.{KeysRise}
use Rattle.mi_text.proofs.MapLemmas.{names_total, names_exact}

lt_or_same : (i j : ℕ) → i ≤ j → (i < j) ⊎ (i ≡ j)
lt_or_same i j le = grind arith

module _ {X : Type 0} (es : List (Name × X)) (q : Name) (rise : KeysRise es) where
  pub found_at : (i : ℕ) (d : Name × X) → i < length es → name_cmp (get_or es i d).0 q ≡ Equal → Some (get_or es i d).1 ≡ lookup (same_name q) es
  found_at i d within equal =
      let e = get_or es i d in
      let at : lookup (same_name e.0) es ≡ Some e.1 = lookup_from_place (eq_by_cmp_equiv names_total) es i e.0 e.1 (IsDistinct-from_sorted name_cmp (keys_of es) rise) (slice_get-get_or es i d within) in
      sym (subst (λ (n : Name). lookup (same_name n) es ≡ Some e.1) (names_exact e.0 q equal) at)

  above : (b : Name) → name_cmp q b ≡ Less → name_cmp b q ≡ Greater
  above b less = names_total.antisymm b q ∙ ap ordering_reverse less

  -- what stands further on compares no lower
  no_lower : (a b : Name) (o : Ordering) → name_cmp a b ≡ Less → name_cmp a q ≡ o → ordering_index o ≤ ordering_index (name_cmp b q)
  no_lower a b Less less is = omega arith
  no_lower a b Equal less is =
      let greater : name_cmp b q ≡ Greater = above b (subst (λ (n : Name). name_cmp n b ≡ Less) (names_exact a q is) less) in
      omega (arith, ap ordering_index greater)
  no_lower a b Greater less is =
      let greater : name_cmp b q ≡ Greater = above b (names_total.trans q a b (names_total.antisymm q a ∙ ap ordering_reverse is) less) in
      omega (arith, ap ordering_index greater)

  apart : (i j : ℕ) (d : Name × X) → i < j → j < length es → name_cmp (get_or es i d).0 (get_or es j d).0 ≡ Less
  apart i j d lt within =
      let less : name_cmp (get_or (keys_of es) i d.0) (get_or (keys_of es) j d.0) ≡ Less = Less-from_sorted name_cmp (keys_of es) i j d.0 rise lt (omega (arith, length-keys_of es)) in
      subst (λ n. name_cmp n (get_or es j d).0 ≡ Less) (get_or-map (λ e. e.0) es i d)
      (subst (λ n. name_cmp (get_or (keys_of es) i d.0) n ≡ Less) (get_or-map (λ e. e.0) es j d) less)

  comparisons_rise : IsNonDecreasingBy (λ e. ordering_index (name_cmp e.0 q)) es
  comparisons_rise i j d le within = ⊎_elim
      (λ lt. no_lower (get_or es i d).0 (get_or es j d).0 (name_cmp (get_or es i d).0 q) (apart i j d lt within) refl)
      (λ same. subst (λ k. ordering_index (name_cmp (get_or es i d).0 q) ≤ ordering_index (name_cmp (get_or es k d).0 q)) same (omega arith))
      (lt_or_same i j le)

  pub none_at : (i : ℕ) → (IsNonDecreasingBy (λ e. ordering_index (name_cmp e.0 q)) es → IsPartitionPoint (λ e. name_cmp e.0 q ≡ Less) (λ e. name_cmp e.0 q ≡ Greater) es i) → None ≡ lookup (same_name q) es
  none_at i parts =
      let p = parts comparisons_rise in
      sym (lookup_at_gap names_total q es i rise
      (λ j e lt at. names_total.antisymm q e.0 ∙ ap ordering_reverse (subst (λ x. name_cmp x.0 q ≡ Less) (get_or_from_slice_get es j e e at) (p.0 j e (omega arith) lt)))
      (λ e at. names_total.antisymm q e.0 ∙ ap ordering_reverse (subst (λ x. name_cmp x.0 q ≡ Greater) (get_or_from_slice_get es i e e at) (p.1 i e (omega arith) (slice_get_within es i e at)))))
