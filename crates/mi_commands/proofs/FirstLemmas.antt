-- The properties at the start of a run are never refused.
use Rattle.std.proofs.Common.{◌≡◌, ℕ, ◌&&◌, Bool, true, false, cond, List, [], ◌∷◌, ◌++◌, map, Option, Some, None, Err, refl, sym, ap, subst, ◌∙◌}
use Rattle.std.specs.Prelude.{codes}
use Rattle.std.specs.List.{AllByRecursion, cons_option, filter_map}
use Rattle.std.specs.FinMap.{entries}
use Rattle.std.proofs.lemmas.List.Folds.{list_all-map, list_all-append}
use Rattle.std.proofs.lemmas.List.Sums.{list_all-from_AllPass}
use Rattle.mi_text.specs.Maps.{Name, Map}
use Rattle.mi_text.specs.PropertyNames.{is_property_name, is_public_name}
use Rattle.mi_text.proofs.MapLemmas.{entries-map_values}
use Rattle.mi_base.specs.declared.entry.Entry.TheVariants as entry
use Rattle.mi_base.specs.Limits.{fits, is_system_name}
use Rattle.mi_base.specs.Machine.{Machine}
use Rattle.mi_base.specs.System.{default_system, has_system}
use Rattle.mi_props.specs.Props.{Value, all_names, start_fault}
use Rattle.mi_props.specs.Starts.{IfFault}
use Rattle.mi_props.specs.declared.props.PropError.{PropError}
use Rattle.mi_props.specs.declared.props.PropError.TheVariants as error
use Rattle.mi_props.specs.declared.props.PropFault.{PropFault}
use Rattle.mi_props.specs.declared.props.PropFault.TheVariants.{PrivateName, BadName}
use Rattle.mi_image.specs.declared.item.Item.{Item}
use Rattle.mi_image.specs.declared.item.Item.TheVariants.{Head, Whole}
use Rattle.mi_image.specs.Items.{Items, machine_over, entry_over, AreRight, MayStand}
use Rattle.mi_image.proofs.ListLemmas.{each_right}
use Rattle.mi_schema.specs.declared.package.Package as loaded
use Rattle.mi_schema.specs.declared.typed_rows.PropertyRow.{PropertyRow}
use Rattle.mi_schema.specs.Laws.{ValuesStand}
use Rattle.mi_schema.specs.RowsOf.{rows_in}
use Rattle.mi_model.specs.World.{Given}
use Rattle.mi_model.specs.Properties.{table_properties}
use Rattle.mi_model.specs.Settings.{settings, system_pair, system_properties, is_recorded}

pub first : (a b : Bool) → (a && b) ≡ true → a ≡ true
first true b is = refl
first false b is = absurd cc

pub both_true : (a b : Bool) → a ≡ true → b ≡ true → (a && b) ≡ true
both_true true b one two = two
both_true false b one two = absurd cc

-- ---- the system's

abbrev IsNamed : Option (Name × Value) → Type 0
IsNamed None = Unit {0}
IsNamed (Some p) = is_property_name p.0 ≡ true

named : (held files : Map (List ℕ)) (q : Name) (i : Item) → MayStand q i → IsNamed (system_pair (q, entry_over held files i))
unfolding fits is_system_name
named held files q (Head h content) may = tt
named held files q (Whole (entry.System property text)) may = first (is_property_name property) _ (first (is_system_name property) _ may.right)
named held files q (Whole (entry.File f)) may = tt
named held files q (Whole (entry.Folder s)) may = tt
named held files q (Whole (entry.Value k v)) may = tt
named held files q (Whole (entry.Key r s)) may = tt
named held files q (Whole (entry.Shortcut s)) may = tt
named held files q (Whole (entry.Variable v)) may = tt
named held files q (Whole (entry.Client c)) may = tt
named held files q (Whole (entry.Product p)) may = tt

one_more : (o : Option (Name × Value)) (xs : List (Name × Value)) → IsNamed o → all_names is_property_name xs ≡ true → all_names is_property_name (cons_option o xs) ≡ true
one_more None xs is all = all
one_more (Some p) xs is all = both_true (is_property_name p.0) (all_names is_property_name xs) is all

held_names : (held files : Map (List ℕ)) (es : List (Name × Item)) → AllByRecursion (λ (e : Name × Item). MayStand e.0 e.1) es → all_names is_property_name (filter_map system_pair (map (λ (e : Name × Item). (e.0, entry_over held files e.1)) es)) ≡ true
held_names held files [] all = refl
held_names held files (e ∷ es) all = one_more (system_pair (e.0, entry_over held files e.1)) _ (named held files e.0 e.1 all.0) (held_names held files es all.1)

default_names : all_names is_property_name default_system ≡ true
unfolding default_system
default_names = refl

system_names : (held files : Map (List ℕ)) (items : Items) → AreRight items → all_names is_property_name (system_properties (machine_over held files items)) ≡ true
unfolding system_properties machine_over
system_names held files items right = by_held (has_system (machine_over held files items))
  where
    by_held : (b : Bool) → all_names is_property_name (cond b (filter_map system_pair (entries (machine_over held files items))) default_system) ≡ true
    by_held true = ap (λ es. all_names is_property_name (filter_map system_pair es)) (entries-map_values (entry_over held files) items) ∙ held_names held files (entries items) (each_right items right)
    by_held false = default_names

abbrev installed : Bool → List (Name × Value)
installed b = cond b ((codes "Installed", codes "1") ∷ []) []

abbrev level : List (Name × Value)
level = (codes "UILevel", codes "2") ∷ []

installed_names : (b : Bool) → all_names is_property_name (installed b) ≡ true
installed_names true = refl
installed_names false = refl

pub setting_names : (held files : Map (List ℕ)) (items : Items) (g : Given) → AreRight items → machine_over held files items ≡ g.former → all_names is_property_name (settings g) ≡ true
unfolding settings
setting_names held files items g right is =
    let system : List (Name × Value) = system_properties g.former in
    let more : List (Name × Value) = installed (is_recorded g.rows g.former) in
    let of_system : all_names is_property_name system ≡ true = ap (λ (m : Machine). all_names is_property_name (system_properties m)) (sym is) ∙ system_names held files items right in
    list_all-append (λ (p : Name × Value). is_property_name p.0) (system ++ more) level
    ∙ both_true (all_names is_property_name (system ++ more)) (all_names is_property_name level)
    (list_all-append (λ (p : Name × Value). is_property_name p.0) system more ∙ both_true (all_names is_property_name system) (all_names is_property_name more) of_system (installed_names (is_recorded g.rows g.former)))
    refl

-- ---- the table's

pub table_names : (p : loaded.Package) → ValuesStand p → all_names is_property_name (table_properties (rows_in p)) ≡ true
unfolding rows_in
table_names p stand =
    list_all-map (λ (x : Name × Value). is_property_name x.0) (λ (r : PropertyRow). (r.property, r.value)) (map (λ e. e.1) p.property.entries)
    ∙ list_all-map (λ (r : PropertyRow). is_property_name r.property) (λ e. e.1) p.property.entries
    ∙ list_all-from_AllPass (λ e. is_property_name e.1.property) p.property.entries stand.property_name

-- ---- none is refused

pub fault_so : (X : Type 0) (e : PropError) (f : PropFault) (P : PropFault → Type 0) → e ≡ error.Fault f → IfFault {X = X} (Err e) P → P f
fault_so X e f P is h = subst (λ (x : PropError). IfFault {X = X} (Err x) P) is h

pub none_refused : (system words table : List (Name × Value)) → all_names is_property_name system ≡ true → all_names is_public_name words ≡ true → all_names is_property_name table ≡ true → start_fault system words table ≡ None
none_refused system words table a b c =
    ap (λ (x : Bool). cond x (cond (all_names is_public_name words) (cond (all_names is_property_name table) None (Some BadName)) (Some PrivateName)) (Some BadName)) a
    ∙ ap (λ (x : Bool). cond x (cond (all_names is_property_name table) None (Some BadName)) (Some PrivateName)) b
    ∙ ap (λ (x : Bool). cond x None (Some BadName)) c
