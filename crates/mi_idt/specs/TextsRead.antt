-- Lines 1 to 3 as texts.
use Rattle.std.specs.Prelude.{◌≡◌, ℕ, List, None, Some, Result, Ok, Err}
use Rattle.mi_text.specs.declared.answers.IdtFault.{IdtFault}
use Rattle.mi_idt.specs.declared.read.Texts.{Texts}
use Rattle.mi_idt.specs.Fault.{text_fault, texts_fault}
use denote.Ref.{Bor}

abbrev pub TextReads : Result (Bor (List ℕ)) IdtFault → ℕ → List ℕ → Type 0
TextReads (Ok text) number line = (text_fault number line ≡ None) × (text.now ≡ line)
TextReads (Err f) number line = text_fault number line ≡ Some f

abbrev pub TextsRead : Result Texts IdtFault → List ℕ → List ℕ → List ℕ → Type 0
TextsRead (Ok t) names definitions head = (texts_fault names definitions head ≡ None) × (t.names.now ≡ names) × (t.definitions.now ≡ definitions) × (t.head.now ≡ head)
TextsRead (Err f) names definitions head = texts_fault names definitions head ≡ Some f
