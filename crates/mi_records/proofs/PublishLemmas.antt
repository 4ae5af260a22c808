-- The record of a product in a plan.
use Rattle.std.proofs.Common.{◌≡◌, ℕ, true, false, length, arith, List, [], ◌∷◌, Option, Some, None, refl, sym, ap, ◌∙◌, subst}
use Rattle.std.specs.Prelude.{◌==◌, Ok}
use Rattle.std.proofs.lemmas.Bool.Decides.{nat_tests}
use Rattle.mi_text.specs.Maps.{Name, Map}
use Rattle.mi_base.specs.declared.entry.Entry.{Entry}
use Rattle.mi_base.specs.declared.entry.Entry.TheVariants as entry
use Rattle.mi_base.specs.declared.entry.Product.{Product}
use Rattle.mi_base.specs.Names.{product_name}
use Rattle.mi_base.specs.Machine.{as_product}
use Rattle.mi_source.specs.Paths.{Files}
use Rattle.mi_changes.specs.Touches.{Set}
use Rattle.mi_schema.specs.TableRows.{Rows, product_code}
use Rattle.mi_model.specs.World.{World, RowEffect}
use Rattle.mi_model.specs.Asked.{chosen}
use Rattle.mi_model.specs.PublishProduct.{product_entry, product_after, publish_product}
use Rattle.mi_steps.specs.declared.plan.Plan.{Plan}
use Rattle.mi_steps.specs.Follows.{drop_touch, put_touch}
use Rattle.mi_steps.specs.Makes.{Makes, plan_machine}
use Rattle.mi_steps.specs.Rows.{FollowsRows}
use Rattle.mi_steps.proofs.RowLemmas.{rows_started, row_more, phase_planned}
use Rattle.mi_model.specs.Plans.{Plans}
use Rattle.mi_records.specs.Products.{recorded, product_touch}

no_features : (p : Product) (fs : List Name) → fs ≡ [] → recorded p fs ≡ None
no_features p [] is = refl
no_features p (f ∷ fs) is = cc

some_there : (f : Name) (fs : List Name) → (length (f ∷ fs) == 0) ≡ false
some_there f fs = grind (arith, nat_tests)

nothing_recorded : (p : Product) (fs : List Name) → (length fs == 0) ≡ true → None ≡ recorded p fs
nothing_recorded p [] is = refl
nothing_recorded p (f ∷ fs) is = let clash : true ≡ false = sym is ∙ some_there f fs in cc

something_recorded : (p : Product) (fs : List Name) → (length fs == 0) ≡ false → Some (entry.Product p) ≡ recorded p fs
something_recorded p [] is = cc
something_recorded p (f ∷ fs) is = refl

module _ (held : Map (List ℕ)) (files : Files) (a b : Plan) (p : Product) where
  as_touch : (o : Option Entry) → o ≡ recorded p p.features → Makes held files a b (Set (product_name p.code.number) (λ old. o) ∷ []) → Makes held files a b (product_touch p ∷ [])
  as_touch o is made = subst (λ (r : Option Entry). Makes held files a b (Set (product_name p.code.number) (λ old. r) ∷ [])) is made

  pub unrecorded : (length p.features == 0) ≡ true → Makes held files a b (drop_touch (product_name p.code.number) ∷ []) → Makes held files a b (product_touch p ∷ [])
  unrecorded none made = as_touch None (nothing_recorded p p.features none) made

  pub is_recorded : (length p.features == 0) ≡ false → Makes held files a b (put_touch (product_name p.code.number) (entry.Product p) ∷ []) → Makes held files a b (product_touch p ∷ [])
  is_recorded some made = as_touch (Some (entry.Product p)) (something_recorded p p.features some) made

-- ---- the product that is seen

-- the code and the features of a record
abbrev code_of : Option Product → ℕ
code_of None = 0
code_of (Some p) = p.code.number

abbrev features_of : Option Product → List Name
features_of None = []
features_of (Some p) = p.features

module _ (w : World) (rows : Rows) (names : List Name) (p : Product) (same : w.given.rows ≡ rows) (those : chosen w (λ s. s.local_after) ≡ names) (is : entry.Product p ≡ product_entry rows names) where
  code : p.code.number ≡ product_code rows
  code = ap (λ (e : Entry). code_of (as_product (Some e))) is

  listed : p.features ≡ names
  listed = ap (λ (e : Entry). features_of (as_product (Some e))) is

  after : (fs : List Name) → p.features ≡ fs → entry.Product p ≡ product_entry rows fs → product_after rows fs ≡ recorded p p.features
  after [] f e = sym (no_features p p.features f)
  after (g ∷ gs) f e = ap Some (sym e) ∙ sym (ap (recorded p) f)

  pub published : publish_product w ≡ Ok ((λ m. Ok (product_touch p ∷ [])) ∷ [])
  unfolding publish_product
  published =
      ap (λ (rs : Rows). Ok ((λ m. Ok (Set (product_name (product_code rs)) (λ old. product_after rs (chosen w (λ s. s.local_after))) ∷ [])) ∷ [])) same
      ∙ ap (λ (fs : List Name). Ok ((λ m. Ok (Set (product_name (product_code rows)) (λ old. product_after rows fs) ∷ [])) ∷ [])) those
      ∙ ap (λ (o : Option Entry). Ok ((λ m. Ok (Set (product_name (product_code rows)) (λ old. o) ∷ [])) ∷ [])) (after names listed is)
      ∙ ap (λ n. Ok ((λ m. Ok (Set (product_name n) (λ old. recorded p p.features) ∷ [])) ∷ [])) (sym code)

  pub publishes : (held : Map (List ℕ)) (files : Files) (a b : Plan) → w.machine ≡ plan_machine held files a → Makes held files a b (product_touch p ∷ []) → Plans files publish_product w (plan_machine held files b) a.script b.script
  publishes held files a b at made =
      let effect : RowEffect = λ m. Ok (product_touch p ∷ []) in
      phase_planned files publish_product w (plan_machine held files b) a.script b.script (effect ∷ []) published
      (subst (λ m. FollowsRows files m (plan_machine held files b) a.script b.script (effect ∷ [])) (sym at)
      (row_more files (plan_machine held files a) (plan_machine held files a) a.script a.script [] (rows_started files (plan_machine held files a) a.script) (plan_machine held files b) b.script effect (product_touch p ∷ []) refl made))
