-- Files and a folder that hold given tables.
use Rattle.std.proofs.Common.{◌≡◌, ℕ, ◌-◌, Bool, true, false, ◌||◌, cond, List, [], ◌∷◌, ◌++◌, length, take, drop, map, codes, Option, Some, None, refl, sym, ap, ◌∙◌, arith, inl, inr}
use Rattle.std.specs.Prelude.{nat_lt, option_map, if◌then◌else◌}
use Rattle.std.specs.List.{list_all}
use Rattle.std.specs.Str.{IsAscii, is_utf8}
use Rattle.std.proofs.lemmas.Bool.{cases_Bool, ltb-true}
use Rattle.std.proofs.lemmas.Str.{IsUtf8-from_ascii, is_utf8-from_IsUtf8}
use Rattle.std.proofs.lemmas.Str.Ascii.{IsAscii-nil, IsAscii-cons}
use Rattle.std.proofs.lemmas.List.{take_at, length-append}
use Rattle.std.specs.FinMap.{get}
use Rattle.mi_text.specs.Maps.{Name, same_name, is_among, tabulated}
use Rattle.mi_text.proofs.MapLemmas.{from_same, same_itself, get-tabulated}
use Rattle.mi_text.specs.declared.answers.IdtFault.{IdtFault}
use Rattle.mi_text.specs.declared.answers.IdtFault.TheVariants.{NotUtf8}
use Rattle.mi_base.specs.declared.answers.Fault.TheVariants.{Idt}
use Rattle.mi_idt.proofs.Basics.{and_true}
use Rattle.mi_idt.specs.Columns.{◌or_else◌ as or_fault}
use Rattle.mi_idt.specs.Fault.{idt_fault, lines_fault, parts_fault}
use Rattle.mi_idt.specs.Raw.{raw_of}
use Rattle.mi_source.specs.Paths.{Files}
use Rattle.mi_rows.specs.Rows.{table_path, ◌or_else◌, value_fault, spelled_value, table_fault, table_rows}
use Rattle.mi_schema.proofs.KnownTables.{install_execute_sequence}

-- ---- paths in the folder without a name

-- the name of the table in the path of its file
table_in : Name → Name
table_in path = take (length path - 5) (drop 1 path)

table_in-path : (q : Name) → table_in (table_path [] q) ≡ q
unfolding table_in
table_in-path q =
    let long = length-append q (codes ".idt") in
    let front : length (table_path [] q) - 5 ≡ length q = omega (arith, long) in
    ap (λ (n : ℕ). take n (q ++ codes ".idt")) front ∙ take_at q (codes ".idt") (length q) refl

alike : (q n : Name) (b : Bool) → same_name q n ≡ b → same_name (table_path [] q) (table_path [] n) ≡ b
alike q n true is = ap (λ (m : Name). same_name (table_path [] q) (table_path [] m)) (sym (from_same q n is)) ∙ same_itself (table_path [] q)
alike q n false is = elim (cases_Bool (same_name (table_path [] q) (table_path [] n))) [
  | inl found ↦
      let equal : q ≡ n = sym (table_in-path q) ∙ ap table_in (from_same (table_path [] q) (table_path [] n) found) ∙ table_in-path n in
      let same = ap (same_name q) (sym equal) ∙ same_itself q in
      absurd cc
  | inr other ↦ other
]

among : (q : Name) (names : List Name) → is_among (table_path [] q) (map (table_path []) names) ≡ is_among q names
among q [] = refl
among q (n ∷ names) = λ i. alike q n (same_name q n) refl i || among q names i

-- ---- the files

-- what stands at these names, and nothing at others
abbrev pub restricted : (Name → Option (List ℕ)) → List Name → Name → Option (List ℕ)
restricted content names q = cond (is_among q names) (content q) None

pub files_of : (Name → Option (List ℕ)) → List Name → Files
files_of content names = tabulated (λ path. content (table_in path)) (map (table_path []) names)

-- the folder without a name holds them
pub folder_holds : (content : Name → Option (List ℕ)) (names : List Name) → (λ q. get (files_of content names) (table_path [] q)) ≡ restricted content names
unfolding files_of
folder_holds content names = λ i q. (get-tabulated (λ path. content (table_in path)) (map (table_path []) names) (table_path [] q) ∙ (λ j. cond (among q names j) (content (table_in-path q j)) None)) i

-- ---- a sequence without rows

tabbed : List Name → Name
tabbed [] = []
tabbed (part ∷ []) = part
tabbed (part ∷ more ∷ parts) = part ++ 9 ∷ tabbed (more ∷ parts)

columns : Name
columns = tabbed (codes "Action" ∷ codes "Condition" ∷ codes "Sequence" ∷ [])

definitions : Name
definitions = tabbed (codes "s72" ∷ codes "S255" ∷ codes "I2" ∷ [])

head : Name
head = tabbed (codes "InstallExecuteSequence" ∷ codes "Action" ∷ [])

-- a file of InstallExecuteSequence that has its columns alone
pub empty_sequence : List ℕ
empty_sequence = columns ++ 10 ∷ (definitions ++ 10 ∷ (head ++ 10 ∷ []))

are_ascii : (text : Name) → list_all (λ b. nat_lt b 128) text ≡ true → IsAscii text
are_ascii [] all = IsAscii-nil
are_ascii (b ∷ text) all = let p = and_true (nat_lt b 128) (list_all (λ b. nat_lt b 128) text) all in IsAscii-cons b text (ltb-true b 128 p.0) (are_ascii text p.1)

are_texts : (text : Name) → list_all (λ b. nat_lt b 128) text ≡ true → is_utf8 text ≡ true
are_texts text all = is_utf8-from_IsUtf8 text (IsUtf8-from_ascii text (are_ascii text all))

lines_faultless : lines_fault (columns ∷ definitions ∷ head ∷ []) ≡ None
unfolding tabbed columns definitions head lines_fault parts_fault
lines_faultless =
    ap (λ (o : Option IdtFault). or_fault o (parts_fault columns definitions head []))
    (λ i. or_fault (if are_texts columns refl i then None else Some (NotUtf8 1)) (or_fault (if are_texts definitions refl i then None else Some (NotUtf8 2)) (if are_texts head refl i then None else Some (NotUtf8 3))))

no_idt_fault : idt_fault empty_sequence ≡ None
unfolding tabbed columns definitions head empty_sequence idt_fault
no_idt_fault = lines_faultless

pub empty_faultless : table_fault install_execute_sequence (Some empty_sequence) ≡ None
unfolding tabbed columns definitions head empty_sequence raw_of
empty_faultless = ap (λ (o : Option IdtFault). option_map (Idt install_execute_sequence.name) o or_else value_fault install_execute_sequence (spelled_value empty_sequence)) no_idt_fault

pub empty_rows : table_rows install_execute_sequence (Some empty_sequence) ≡ []
unfolding tabbed columns definitions head empty_sequence raw_of
empty_rows = refl
