-- Variables as they are held.
use Rattle.std.proofs.Common.{◌≡◌, ℕ, suc, ◌≤◌, Bool, true, false, not, ◌&&◌, ◌||◌, List, ◌++◌, length, Option, Some, None, Bor, refl, sym, ap, ◌∙◌, arith, length-append}
use Rattle.std.specs.Prelude.{◌==◌, nat_le, nat_lt, option_map, IfSome}
use Rattle.std.specs.FinMap.{get}
use Rattle.std.proofs.lemmas.Bool.Decides.{nat_tests}
use Rattle.std.proofs.lemmas.List.{length-map}
use Rattle.std.specs.Char.{to_ascii_lowercase}
use Rattle.std.specs.Int.{w32, to_be_bytes}
use Rattle.mi_text.specs.Fold.{IsNameLength}
use Rattle.mi_text.specs.Maps.{Name, Map}
use Rattle.mi_text.proofs.ByteLemmas.{both}
use Rattle.mi_base.specs.declared.entry.Entry.{Entry}
use Rattle.mi_base.specs.declared.entry.Entry.TheVariants as entry
use Rattle.mi_base.specs.declared.entry.Variable.{Variable}
use Rattle.mi_base.specs.Fields.{string}
use Rattle.mi_base.specs.Limits.{fits, is_short, is_variable_name, has_no_zero}
use Rattle.mi_base.specs.Machine.{as_variable}
use Rattle.mi_base.specs.Names.{variable_name}
use Rattle.mi_base.specs.Spelling.{name_of, record_of}
use Rattle.mi_image.specs.declared.item.Item.{Item}
use Rattle.mi_image.specs.declared.item.Item.TheVariants.{Whole}
use Rattle.mi_image.specs.Items.{Items, entry_over, machine_over, AreRight}
use Rattle.mi_script.specs.Spelled.{is_file_name}
use Rattle.mi_steps.proofs.StepLemmas.{get-over}
use Rattle.mi_model.specs.Texts.{Text}
use Rattle.mi_model.specs.EnvironmentRows.{variable_in, is_bad_name, named_variable, is_of_system}
use Rattle.mi_model.specs.WriteEnvironmentStrings.{variable_entry}
use Rattle.mi_records.specs.Values.{is_too_large}
use Rattle.mi_row_steps.proofs.SizeLemmas.{or_first}
use Rattle.mi_environment.specs.Variables.{IsHeldAt}

-- ---- names

or_last : (a b : Bool) → (a || b) ≡ false → b ≡ false
or_last true b e = cc
or_last false b e = e

not_false : (b : Bool) → not b ≡ false → b ≡ true
not_false true e = refl
not_false false e = cc

-- a good Name names a variable
pub good_variable : (name : Text) → is_bad_name name ≡ false → is_variable_name (variable_in name) ≡ true
good_variable name good = not_false (is_variable_name (variable_in name)) (or_last _ (not (is_variable_name (variable_in name))) good)

short_variable : (name : Text) → is_variable_name name ≡ true → length name ≤ 500
unfolding is_variable_name
short_variable name is =
    let all = both (not (length name == 0) && nat_le (length name) 500) (has_no_zero name) is in
    let short : nat_le (length name) 500 ≡ true = (both (not (length name == 0)) (nat_le (length name) 500) all.0).1 in
    grind (arith, nat_tests)

named_length : (system : Bool) (name : Text) → length (variable_name system name) ≡ suc (suc (suc (length name)))
unfolding variable_name
named_length true name = ap (λ (n : ℕ). suc (suc (suc n))) (length-map name to_ascii_lowercase)
named_length false name = ap (λ (n : ℕ). suc (suc (suc n))) (length-map name to_ascii_lowercase)

-- its name has 1 to 1,024 bytes
pub right_length : (name : Text) → is_bad_name name ≡ false → IsNameLength (named_variable name)
unfolding named_variable
right_length name good =
    let short = short_variable (variable_in name) (good_variable name good) in
    let long = named_length (is_of_system name) (variable_in name) in
    (omega (arith, long), omega (arith, long, short))

-- it is no file's
pub plain_variable : (name : Text) → is_file_name (named_variable name) ≡ false
unfolding named_variable variable_name
plain_variable name = refl

pub entry_named : (name text : Text) → name_of (variable_entry name text) ≡ named_variable name
unfolding named_variable
entry_named name text = refl

-- ---- what an image holds

module _ (held files : Map (List ℕ)) (items : Items) (q : Name) where
  pub held_item : (i : Item) (o : Option Variable) → get items q ≡ Some i → o ≡ as_variable (Some (entry_over held files i)) → o ≡ as_variable (get (machine_over held files items) q)
  held_item i o at is = is ∙ ap as_variable (sym (get-over held files items q ∙ ap (option_map (entry_over held files)) at))

  pub held_none : get items q ≡ None → None ≡ as_variable (get (machine_over held files items) q)
  held_none at = ap as_variable (sym (get-over held files items q ∙ ap (option_map (entry_over held files)) at))

pub held_named : (items : Items) (q : Name) (i : Item) (v : Variable) → AreRight items → get items q ≡ Some i → i ≡ Whole (entry.Variable v) → IsHeldAt q v
held_named items q i v right at is = (right q (Whole (entry.Variable v)) (at ∙ ap Some is)).named

-- the variable that stands there is all that stands there
pub held_whole : (o : Option Entry) (v : Variable) → as_variable o ≡ Some v → o ≡ Some (entry.Variable v)
held_whole None v is = cc
held_whole (Some (entry.File f)) v is = cc
held_whole (Some (entry.Folder t)) v is = cc
held_whole (Some (entry.Value k x)) v is = cc
held_whole (Some (entry.Key r t)) v is = cc
held_whole (Some (entry.Shortcut s)) v is = cc
held_whole (Some (entry.Variable x)) v is = let same : x ≡ v = cc in ap (λ (y : Variable). Some (entry.Variable y)) same
held_whole (Some (entry.Client x)) v is = cc
held_whole (Some (entry.Product p)) v is = cc
held_whole (Some (entry.System p t)) v is = cc

pub all_named : (items : Items) (q : Name) (i : Item) (o : Option (Bor Variable)) → AreRight items → get items q ≡ Some i → IfSome o (λ v. i ≡ Whole (entry.Variable v.now)) → IfSome o (λ v. IsHeldAt q v.now)
all_named items q i None right at is = tt
all_named items q i (Some v) right at is = held_named items q i v.now right at is

-- ---- variables that have no record

variable_alone : (v : Variable) → is_variable_name v.name ≡ true → fits (entry.Variable v) ≡ is_short v.value
unfolding fits
variable_alone v named = ap (λ b. b && is_short v.value) named

long_value : (name text : List ℕ) → is_short text ≡ false → nat_lt 16777216 (length (string name ++ string text)) ≡ true
long_value name text long =
    let whole = length-append (string name) (string text) in
    let own = length-append (to_be_bytes w32 (length text)) text in
    grind (arith, nat_tests)

pub variable_large : (v : Variable) → is_variable_name v.name ≡ true → fits (entry.Variable v) ≡ false → is_too_large (entry.Variable v) ≡ true
unfolding record_of
variable_large v named unfit = or_first _ _ (long_value v.name v.value (sym (variable_alone v named) ∙ unfit))
