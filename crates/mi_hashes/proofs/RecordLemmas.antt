-- The bytes that records of files end with.
use Rattle.std.proofs.Common.{◌≡◌, ℕ, ◌-◌, Bool, true, false, cond, List, [], ◌++◌, length, drop, Option, Some, None, Result, Ok, Err, refl, sym, ap, subst, ◌∙◌, arith, length-append}
use Rattle.std.proofs.lemmas.List.{append-nil}
use Rattle.std.proofs.Math.Seq.{drop-append_seam}
use Rattle.std.specs.Prelude.{option_and_then}
use Rattle.std.specs.FinMap.{get}
use Rattle.mi_text.specs.Maps.{Name, Map}
use Rattle.mi_volume.specs.Maps as volume
use Rattle.mi_base.specs.declared.rec_error.RecFault.{RecFault}
use Rattle.mi_base.specs.declared.entry.Entry.{Entry}
use Rattle.mi_base.specs.declared.entry.Entry.TheVariants as entry
use Rattle.mi_base.specs.Machine.{read_entry, ok_entry}
use Rattle.mi_base.specs.Records.{entry_of}
use Rattle.mi_base.specs.SpelledMaps.{is_area, spelled_at}
use Rattle.mi_base.specs.Spelling.{record_of, head_bytes, head_of}
use Rattle.mi_base.proofs.EntryLemmas.{spells}
use Rattle.mi_image.specs.Items.{bytes_of_file}

-- a list ends with another
abbrev pub Ends : List ℕ → List ℕ → Type 0
Ends whole back = (front : List ℕ) × (whole ≡ front ++ back)

ends_none : (whole : List ℕ) → Ends whole []
ends_none whole = (whole, sym (append-nil whole))

ends_file : (e : Entry) (whole : List ℕ) → record_of e ≡ whole → Ends whole (bytes_of_file (Some e))
unfolding record_of
ends_file (entry.File f) whole is = (head_bytes (head_of f), sym is)
ends_file (entry.Folder a) whole is = ends_none whole
ends_file (entry.Value a b) whole is = ends_none whole
ends_file (entry.Key a b) whole is = ends_none whole
ends_file (entry.Shortcut a) whole is = ends_none whole
ends_file (entry.Variable a) whole is = ends_none whole
ends_file (entry.Client a) whole is = ends_none whole
ends_file (entry.Product a) whole is = ends_none whole
ends_file (entry.System a b) whole is = ends_none whole

ends_read : (q : Name) (whole : List ℕ) (r : Result Entry RecFault) → entry_of q whole ≡ r → Ends whole (bytes_of_file (ok_entry r))
ends_read q whole (Ok e) is = ends_file e whole (spells q whole e is).spelled
ends_read q whole (Err f) is = ends_none whole

-- what a name holds ends with the bytes of the file that it spells
pub ends_held : (held : Map (List ℕ)) (q : Name) → Ends (volume.bytes_or_none (get held q)) (bytes_of_file (spelled_at read_entry held q))
ends_held held q = by_area (is_area q) (get held q)
  where
    by_area : (b : Bool) (o : Option (List ℕ)) → Ends (volume.bytes_or_none o) (bytes_of_file (cond b None (option_and_then (read_entry q) o)))
    by_area true o = ends_none (volume.bytes_or_none o)
    by_area false None = ends_none []
    by_area false (Some whole) = ends_read q whole (entry_of q whole) refl

pub last_of : (whole back : List ℕ) (n : ℕ) → Ends whole back → length back ≡ n → drop (length whole - n) whole ≡ back
last_of whole back n ends e =
    let F : List ℕ → Type 0 = λ l. drop (length l - n) l ≡ back in
    let at : length (ends.0 ++ back) - n ≡ length ends.0 = omega (arith, length-append ends.0 back, e) in
    subst F (sym ends.1) (ap (λ (k : ℕ). drop k (ends.0 ++ back)) at ∙ drop-append_seam ends.0 back)
