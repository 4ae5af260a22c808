-- What phases ask of what is kept is what the world is asked for.
use Rattle.std.proofs.Common.{◌≡◌, ℕ, Bool, false, List, Option, Some, None, refl, sym, ap, subst, ◌∙◌}
use Rattle.std.specs.Prelude.{option_map, unwrap_or}
use Rattle.std.specs.Option.{option_map_or}
use Rattle.mi_text.specs.Maps.{Map}
use Rattle.mi_source.specs.Paths.{Files}
use Rattle.mi_schema.specs.TableRows.{component_row_of}
use Rattle.mi_model.specs.World.{Given, Selection}
use Rattle.mi_model.specs.States.{is_present}
use Rattle.mi_model.specs.Asked.{comes, leaves, keeps}
use Rattle.mi_model.specs.ComponentRows.{is_local}
use Rattle.mi_records.specs.Choices.{IsAsked}
use Rattle.mi_steps.specs.declared.plan.Plan.{Plan}
use Rattle.mi_world.specs.declared.placed.Placed.{Placed}
use Rattle.mi_world.specs.declared.seen.Seen.{Seen}
use Rattle.mi_world.specs.Choices.{seen_choices}
use Rattle.mi_world.specs.Ground.{ground}
use Rattle.mi_world.specs.Seen.{seen_lookups, world_over, IsCosted, IsOf}
use Rattle.mi_world.proofs.LookLemmas.{looks, present_is}
use Rattle.mi_world.proofs.WorldLemmas.{some_is}

or_false : {A : Type 0} (f h : A → Bool) → ((a : A) → f a ≡ h a) → (o : Option A) → option_map_or h o false ≡ unwrap_or (option_map f o) false
or_false f h same None = refl
or_false f h same (Some a) = sym (same a)

-- with these directories and this selection
abbrev behind : Seen → Placed → Selection → Seen
behind s p choice = record s { placed = Some p; selection = Some choice }

module _ (held : Map (List ℕ)) (files : Files) (g : Given) (plan : Plan) where
  asked_behind : (s : Seen) (p : Placed) (choice : Selection) → IsOf g (behind s p choice)
      → IsAsked (seen_lookups (behind s p choice)) (seen_choices (behind s p choice)) s.loaded (world_over held files g (behind s p choice) plan)
  unfolding comes leaves keeps is_local
  asked_behind s p choice is = record {
    lookups = sym (looks held files g (behind s p choice) plan is);
    rows = sym is.knows.rows;
    coming = λ name. refl;
    leaving = λ name. refl;
    kept = λ name. refl;
    local = λ name. refl;
    absent = λ name. refl;
    found = λ r. refl;
    present = λ name.
        or_false (is_present (ground g.rows g.former)) (is_present g) (present_is g) (component_row_of g.rows name)
        ∙ sym (ap (λ (o : Option Bool). unwrap_or o false) (is.knows.known.present name));
    mode = λ letter. refl;
    local_after = refl;
    letters = refl;
    dirs = refl;
    moment = sym is.knows.now;
    system = sym is.knows.known.system;
  }

  pub asks : (s : Seen) → IsOf g s → IsCosted s → IsAsked (seen_lookups s) (seen_choices s) s.loaded (world_over held files g s plan)
  asks s is costed =
      let p = some_is s.placed costed.0 in
      let choice = some_is s.selection costed.1 in
      let same : behind s p.0 choice.0 ≡ s = λ i. record s { placed = sym p.1 i; selection = sym choice.1 i } in
      subst (λ (t : Seen). IsAsked (seen_lookups t) (seen_choices t) t.loaded (world_over held files g t plan)) same (asked_behind s p.0 choice.0 (subst (IsOf g) (sym same) is))
