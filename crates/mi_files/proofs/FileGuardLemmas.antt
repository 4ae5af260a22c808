-- The files that rows of kept components guard, row by row.
use Rattle.std.proofs.Common.{◌≡◌, ℕ, suc, Bool, true, false, cond, ◌&&◌, ◌||◌, List, [], ◌∷◌, Option, None, refl, sym, ap, ◌∙◌}
use Rattle.std.specs.List.{list_any}
use Rattle.std.specs.Option.{option_map_or}
use Rattle.std.specs.BTreeSet.{BTreeSet, contains}
use Rattle.mi_text.specs.Maps.{Name, name_cmp, same_name}
use Rattle.mi_schema.specs.TableRows.{Numbered, numbered_from}
use Rattle.mi_model.specs.World.{World}
use Rattle.mi_model.specs.Asked.{keeps}
use Rattle.mi_model.specs.ComponentRows.{is_guarded_by}
use Rattle.mi_model.specs.FilePaths.{is_guarded_file}
use Rattle.mi_records.specs.Removing.{Guards}
use Rattle.mi_records.proofs.SeatLemmas.{or_none}
use Rattle.mi_files.specs.Guarding.{guards_files, guards_copies}

-- what a row names, where its component is kept
pub guard_kept : (b : Bool) (name o : Option Name) → b ≡ true → o ≡ name → o ≡ cond b name None
guard_kept b name o kept is = is ∙ ap (λ t. cond t name None) (sym kept)

pub guard_none : (b : Bool) (name : Option Name) → b ≡ false → None ≡ cond b name None
guard_none b name kept = ap (λ t. cond t name None) (sym kept)

or_assoc : (a b c : Bool) → ((a || b) || c) ≡ (a || (b || c))
or_assoc true b c = refl
or_assoc false b c = refl

-- a row guards this name
abbrev guards_it : {R : Type 0} → World → (R → Name) → (Numbered R → Option Name) → Name → Numbered R → Bool
guards_it w component named name r = keeps w (component r.row) && option_map_or (same_name name) (named r) false

-- what a set has, and what the rows guard that are still to come
pub record Guarding (R : Type 0) (w : World) (component : R → Name) (named : Numbered R → Option Name) (all : List R) (old set : BTreeSet Name) (rest : List R) : Type 0 where
  pub number : ℕ
  pub so : (name : Name) → (contains name_cmp set name || list_any (guards_it w component named name) (numbered_from number rest)) ≡ (contains name_cmp old name || is_guarded_by w component named all name)

module _ (R : Type 0) (w : World) (component : R → Name) (named : Numbered R → Option Name) (all : List R) (old : BTreeSet Name) where
  by_guard : (name : Name) (r : Numbered R) → guards_it w component named name r ≡ option_map_or (same_name name) (cond (keeps w (component r.row)) (named r) None) false
  by_guard name r = elim (keeps w (component r.row)) as (λ b. (b && option_map_or (same_name name) (named r) false) ≡ option_map_or (same_name name) (cond b (named r) None) false) [
    | true ↦ refl
    | false ↦ refl
  ]

  -- before the first row
  pub guarding_none : (rest : List R) → rest ≡ all → Guarding R w component named all old old rest
  guarding_none rest is = record {
    number = 1;
    so = λ name. ap (λ (rs : List R). contains name_cmp old name || list_any (guards_it w component named name) (numbered_from 1 rs)) is;
  }

  -- one row more
  pub guarding_more : (set new : BTreeSet Name) (rest more : List R) (row : R) (o : Option Name) → (g : Guarding R w component named all old set rest) → rest ≡ row ∷ more → o ≡ cond (keeps w (component row)) (named (record { number = g.number; row = row })) None
      → ((name : Name) → contains name_cmp new name ≡ (contains name_cmp set name || option_map_or (same_name name) o false)) → Guarding R w component named all old new more
  guarding_more set new rest more row o g is found grown = record {
    number = suc g.number;
    so = λ name.
        let later = list_any (guards_it w component named name) (numbered_from (suc g.number) more) in
        ap (λ b. b || later) (grown name)
        ∙ or_assoc (contains name_cmp set name) (option_map_or (same_name name) o false) later
        ∙ ap (λ b. contains name_cmp set name || (b || later)) (ap (λ (x : Option Name). option_map_or (same_name name) x false) found ∙ sym (by_guard name (record { number = g.number; row = row })))
        ∙ ap (λ (rs : List R). contains name_cmp set name || list_any (guards_it w component named name) (numbered_from g.number rs)) (sym is)
        ∙ g.so name;
  }

  -- behind the last row
  pub guarding_all : (set : BTreeSet Name) (rest : List R) → Guarding R w component named all old set rest → rest ≡ [] → (name : Name) → contains name_cmp set name ≡ (contains name_cmp old name || is_guarded_by w component named all name)
  guarding_all set rest g is name =
      sym (or_none (contains name_cmp set name))
      ∙ sym (ap (λ (rs : List R). contains name_cmp set name || list_any (guards_it w component named name) (numbered_from g.number rs)) is)
      ∙ g.so name

-- both tables, behind a set of nothing
pub both_guard : (w : World) (none one two : BTreeSet Name) → ((name : Name) → contains name_cmp none name ≡ false) → ((name : Name) → contains name_cmp one name ≡ (contains name_cmp none name || guards_files w name))
    → ((name : Name) → contains name_cmp two name ≡ (contains name_cmp one name || guards_copies w name)) → Guards two (is_guarded_file w)
unfolding is_guarded_file
both_guard w none one two empty first second name =
    second name ∙ ap (λ b. b || guards_copies w name) (first name ∙ ap (λ b. b || guards_files w name) (empty name))
