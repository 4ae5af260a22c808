-- What becomes of the counts of shared files in a plan.
use Rattle.std.proofs.Common.{◌≡◌, ℕ, Bool, true, false, cond, List, [], ◌∷◌, ◌++◌, length, Option, Some, None, sym, ap, ◌∙◌, subst}
use Rattle.std.specs.Prelude.{◌+◌, ◌&&◌, min, codes, is_some, option_map, IfSome}
use Rattle.std.specs.FinMap.{get}
use Rattle.std.specs.Option.{option_or}
use Rattle.std.specs.BTreeSet.{BTreeSet, contains}
use Rattle.mi_text.specs.Maps.{Name, Map, name_cmp}
use Rattle.mi_text.specs.Fold.{folded}
use Rattle.mi_base.specs.declared.entry.Entry.{Entry}
use Rattle.mi_base.specs.declared.entry.FileHead.{FileHead}
use Rattle.mi_base.specs.Machine.{Machine}
use Rattle.mi_base.specs.Names.{value_name, digit, four_digits}
use Rattle.mi_base.specs.Spelling.{name_of}
use Rattle.mi_base.proofs.FoldLemmas.{folded-folded}
use Rattle.mi_source.specs.Paths.{Files}
use Rattle.mi_changes.specs.Touches.{Set}
use Rattle.mi_image.specs.declared.item.Content.{Content}
use Rattle.mi_image.specs.declared.item.Item.TheVariants.{Head, Whole}
use Rattle.mi_image.specs.Items.{Items, entry_over, machine_over}
use Rattle.mi_script.specs.declared.rec.Rec.{Rec}
use Rattle.mi_script.specs.Spelled.{is_file_name}
use Rattle.mi_model.specs.Texts.{Text}
use Rattle.mi_model.specs.SharedCounts.{shared_key, count_name, count_entry, count_in, raised, lowered}
use Rattle.mi_steps.specs.Follows.{Follows, put_touch, drop_touch}
use Rattle.mi_steps.proofs.FollowLemmas.{started, same_touch, no_step}
use Rattle.mi_steps.proofs.StepLemmas.{get-over}
use Rattle.mi_records.specs.Removing.{Guards}
use Rattle.mi_records.proofs.LessLemmas.{whole_over, plain_value}
use Rattle.mi_count_steps.specs.Counts.{MayStandAt}

-- ---- a name

pub count_named : (path : Text) (n : ℕ) (e : Entry) → e ≡ count_entry path n → name_of e ≡ count_name path
unfolding value_name
count_named path n e is = ap name_of is ∙ ap (λ (k : List ℕ). codes "v/" ++ (digit 2 ∷ four_digits (length k) ++ k ++ folded path)) (folded-folded shared_key)

pub count_plain : (path : Text) → is_file_name (count_name path) ≡ false
count_plain path = plain_value (record { root = 2; key = shared_key; name = path })

-- ---- what stands at a name

module _ (held files : Map (List ℕ)) (items : Items) (q : Name) where
  pub number_whole : (e : Entry) → get items q ≡ Some (Whole e) → count_in (Some e) ≡ count_in (get (machine_over held files items) q)
  number_whole e is = ap count_in (sym (whole_over held files items q e is))

  pub number_head : (h : FileHead) (content : Content) → get items q ≡ Some (Head h content) → 0 ≡ count_in (get (machine_over held files items) q)
  number_head h content is = ap count_in (sym (get-over held files items q ∙ ap (option_map (entry_over held files)) is))

  pub number_none : get items q ≡ None → 0 ≡ count_in (get (machine_over held files items) q)
  number_none is = ap count_in (sym (get-over held files items q ∙ ap (option_map (entry_over held files)) is))

  -- one less
  pub lowered_whole : (e : Entry) (o : Option Entry) → get items q ≡ Some (Whole e) → option_or o (Some e) ≡ lowered (Some e) → option_or o (get (machine_over held files items) q) ≡ lowered (get (machine_over held files items) q)
  lowered_whole e o is less = let at = whole_over held files items q e is in ap (option_or o) at ∙ less ∙ ap lowered (sym at)

  pub lowered_head : (h : FileHead) (content : Content) → get items q ≡ Some (Head h content) → get (machine_over held files items) q ≡ lowered (get (machine_over held files items) q)
  lowered_head h content is =
      let at : get (machine_over held files items) q ≡ Some (entry_over held files (Head h content)) = get-over held files items q ∙ ap (option_map (entry_over held files)) is in
      at ∙ ap lowered (sym at)

  pub lowered_none : get items q ≡ None → get (machine_over held files items) q ≡ lowered (get (machine_over held files items) q)
  lowered_none is =
      let at : get (machine_over held files items) q ≡ None = get-over held files items q ∙ ap (option_map (entry_over held files)) is in
      at ∙ ap lowered (sym at)

pub stands_so : (q r : Name) (o : Option Entry) → q ≡ r → IfSome o (MayStandAt q) → IfSome o (MayStandAt r)
stands_so q r o is may = subst (λ (n : Name). IfSome o (MayStandAt n)) is may

-- ---- touches

pub count_raised : (files : Files) (m n : Machine) (h i : List Rec) (path : Text) (number : ℕ) → number ≡ min (count_in (get m (count_name path)) + 1) 4294967295
    → Follows files m n h i (put_touch (count_name path) (count_entry path number) ∷ []) → Follows files m n h i (Set (count_name path) (raised path) ∷ [])
count_raised files m n h i path number is made = same_touch files m n h i (count_name path) (λ old. Some (count_entry path number)) (raised path) (ap (λ k. Some (count_entry path k)) is) made

pub lowered_same : (files : Files) (m : Machine) (h : List Rec) (q : Name) → is_file_name q ≡ false → get m q ≡ lowered (get m q) → Follows files m m h h (Set q lowered ∷ [])
lowered_same files m h q plain same = no_step files m h q lowered (ap (λ b. b && is_some (lowered (get m q))) plain) (sym same)

pub taken : (guarded : Name → Bool) (set : BTreeSet Name) (q : Name) (files : Files) (m n : Machine) (h i : List Rec) → Guards set guarded → contains name_cmp set q ≡ false
    → Follows files m n h i (drop_touch q ∷ []) → Follows files m n h i (cond (guarded q) [] (Set q (λ old. None) ∷ []))
taken guarded set q files m n h i guards other made = subst (λ b. Follows files m n h i (cond b [] (drop_touch q ∷ []))) (sym other ∙ guards q) made

pub not_taken : (guarded : Name → Bool) (set : BTreeSet Name) (q : Name) (files : Files) (m : Machine) (h : List Rec) → Guards set guarded → contains name_cmp set q ≡ true
    → Follows files m m h h (cond (guarded q) [] (Set q (λ old. None) ∷ []))
not_taken guarded set q files m h guards there = subst (λ b. Follows files m m h h (cond b [] (drop_touch q ∷ []))) (sym there ∙ guards q) (started files m h)
