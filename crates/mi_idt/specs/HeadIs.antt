-- What line 3 says, as the reader has it.
use Rattle.std.specs.Prelude.{◌≡◌, ℕ, List, Option, Some, None, Result, Ok, Err}
use Rattle.mi_text.specs.declared.answers.IdtFault.{IdtFault}
use Rattle.mi_text.specs.declared.answers.IdtFault.TheVariants.{KeyColumn}
use Rattle.mi_idt.specs.declared.head.Head.{Head}
use Rattle.mi_idt.specs.Head.{page_of, page_fault, key_fault, after_page, name_in, keys_in, places_of}

abbrev pub PageReads : Result (Option ℕ) IdtFault → Option ℕ → Type 0
PageReads (Ok page) n = (page_fault n ≡ None) × (page ≡ n)
PageReads (Err f) n = page_fault n ≡ Some f

-- the place of the key column, where it is known and none of those before
abbrev pub IsNewPlace : Option ℕ → List ℕ → List ℕ → Option ℕ → Type 0
IsNewPlace None seen key place = key_fault seen key place ≡ Some (KeyColumn key)
IsNewPlace (Some i) seen key place = (place ≡ Some i) × (key_fault seen key place ≡ None)

abbrev pub NamedIs : Head → Option ℕ → List (List ℕ) → List (List ℕ) → Type 0
NamedIs h page names fields = (h.page ≡ page) × (h.name.now ≡ name_in fields) × (h.keys.items ≡ places_of names (keys_in fields))

abbrev pub HeadIs : Head → List (List ℕ) → List (List ℕ) → Type 0
HeadIs h names fields = NamedIs h (page_of fields) names (after_page fields)
