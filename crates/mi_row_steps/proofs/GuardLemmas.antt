-- What rows of kept components guard, row by row.
use Rattle.std.proofs.Common.{◌≡◌, ℕ, suc, Bool, true, false, cond, ◌&&◌, ◌||◌, List, [], ◌∷◌, Option, None, refl, sym, ap, ◌∙◌}
use Rattle.std.specs.List.{list_any}
use Rattle.std.specs.Option.{option_map_or}
use Rattle.std.specs.BTreeSet.{BTreeSet, contains}
use Rattle.mi_text.specs.Maps.{Name, name_cmp, same_name}
use Rattle.mi_schema.specs.TableRows.{Numbered, numbered_from}
use Rattle.mi_model.specs.World.{World}
use Rattle.mi_model.specs.Asked.{keeps}
use Rattle.mi_model.specs.ComponentRows.{is_guarded_by}
use Rattle.mi_records.specs.Meaning.{numbered}
use Rattle.mi_records.specs.Removing.{Guards}

module _ {R : Type 0} (w : World) (component : R → Name) (named_by : Numbered R → Option Name) where
  -- a row guards what has this name
  abbrev guards_it : Name → Numbered R → Bool
  guards_it name r = keeps w (component r.row) && option_map_or (same_name name) (named_by r) false

  -- what a set has, and what the rows guard that are still to come
  pub record Guarding (all : List R) (set : BTreeSet Name) (rest : List R) : Type 0 where
    pub number : ℕ
    pub so : (name : Name) → (contains name_cmp set name || list_any (guards_it name) (numbered_from number rest)) ≡ is_guarded_by w component named_by all name

  by_guard : (name : Name) (r : Numbered R) → guards_it name r ≡ option_map_or (same_name name) (cond (keeps w (component r.row)) (named_by r) None) false
  by_guard name r = elim (keeps w (component r.row)) as (λ b. (b && option_map_or (same_name name) (named_by r) false) ≡ option_map_or (same_name name) (cond b (named_by r) None) false) [
    | true ↦ refl
    | false ↦ refl
  ]

  -- before the first row
  pub guarding_none : (all rest : List R) (set : BTreeSet Name) → rest ≡ all → ((name : Name) → contains name_cmp set name ≡ false) → Guarding all set rest
  guarding_none all rest set is none = record {
    number = 1;
    so = λ name. ap (λ b. b || list_any (guards_it name) (numbered_from 1 rest)) (none name) ∙ ap (λ (rs : List R). list_any (guards_it name) (numbered_from 1 rs)) is;
  }

  -- one row more
  pub guarding_more : (all rest more : List R) (set new : BTreeSet Name) (row : R) (o : Option Name) → (g : Guarding all set rest) → rest ≡ row ∷ more → o ≡ cond (keeps w (component row)) (named_by (numbered g.number row)) None
      → ((name : Name) → contains name_cmp new name ≡ (contains name_cmp set name || option_map_or (same_name name) o false)) → Guarding all new more
  guarding_more all rest more set new row o g is found grown = record {
    number = suc g.number;
    so = λ name.
        let later = list_any (guards_it name) (numbered_from (suc g.number) more) in
        ap (λ b. b || later) (grown name)
        ∙ or_assoc (contains name_cmp set name) (option_map_or (same_name name) o false) later
        ∙ ap (λ b. contains name_cmp set name || (b || later)) (ap (λ (x : Option Name). option_map_or (same_name name) x false) found ∙ sym (by_guard name (numbered g.number row)))
        ∙ ap (λ (rs : List R). contains name_cmp set name || list_any (guards_it name) (numbered_from g.number rs)) (sym is)
        ∙ g.so name;
  }
    where
      or_assoc : (a b c : Bool) → ((a || b) || c) ≡ (a || (b || c))
      or_assoc true b c = refl
      or_assoc false b c = refl

  -- behind the last row
  pub guarding_all : (all rest : List R) (set : BTreeSet Name) → Guarding all set rest → rest ≡ [] → Guards set (is_guarded_by w component named_by all)
  guarding_all all rest set g is name =
      sym (or_none (contains name_cmp set name))
      ∙ sym (ap (λ (rs : List R). contains name_cmp set name || list_any (guards_it name) (numbered_from g.number rs)) is)
      ∙ g.so name
    where
      or_none : (b : Bool) → (b || false) ≡ b
      or_none true = refl
      or_none false = refl
