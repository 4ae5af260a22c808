-- What steps leave that write files.
use Rattle.std.proofs.Common.{◌≡◌, ℕ, ◌+◌, ◌-◌, true, false, Bool, List, [], ◌∷◌, ◌++◌, length, drop, Option, Some, None, refl, sym, ap, subst, ◌∙◌, arith, length-append}
use Rattle.std.proofs.Math.Seq.{drop-append_seam}
use Rattle.std.proofs.lemmas.List.Elements.{All-head}
use Rattle.std.specs.Prelude.{option_map, not, ◌&&◌}
use Rattle.std.specs.FinMap.{get, insert}
use Rattle.mi_text.specs.Maps.{Name, Map}
use Rattle.mi_base.specs.declared.entry.FileHead.{FileHead}
use Rattle.mi_base.specs.declared.entry.FileEntry.{FileEntry}
use Rattle.mi_base.specs.declared.entry.Entry.{Entry}
use Rattle.mi_base.specs.declared.entry.Entry.TheVariants as entry
use Rattle.mi_base.specs.Machine.{Machine, volume_of}
use Rattle.mi_base.specs.Names.{file_name}
use Rattle.mi_base.specs.Records.{with_bytes}
use Rattle.mi_base.specs.Spelling.{head_of, head_bytes, record_of}
use Rattle.mi_source.specs.Paths.{Files}
use Rattle.mi_source.specs.Paths as source
use Rattle.mi_image.specs.declared.item.Item.{Item}
use Rattle.mi_image.specs.declared.item.Item.TheVariants.{Head, Whole}
use Rattle.mi_image.specs.Items.{Items, bytes_of_file, bytes_or_none, content_bytes, entry_over, machine_over, AreThere}
use Rattle.mi_image.specs.Lookups.{length_in}
use Rattle.mi_script.specs.declared.rec.Rec.{Rec}
use Rattle.mi_script.specs.declared.rec.Rec.TheVariants.{Copy, Dup}
use Rattle.mi_script.specs.Scripts.{last_bytes, change_of}
use Rattle.mi_script.specs.Spelled.{is_file_name, same_record, is_left_out}
use Rattle.mi_model.specs.StatedSizes.{HasCopied, StateSizes}
use Rattle.mi_steps.specs.Follows.{Follows, put_touch}
use Rattle.mi_steps.specs.Makes.{copy_touch, duplicate_touch}
use Rattle.mi_steps.proofs.FollowLemmas.{get-volume_of, set_one}
use Rattle.mi_steps.proofs.StepLemmas.{get-over}

is_file_named : (path : List ℕ) → is_file_name (file_name path) ≡ true
unfolding file_name
is_file_named path = refl

pub record_of_file : (h : FileHead) (bytes : List ℕ) → record_of (entry.File (with_bytes h bytes)) ≡ head_bytes h ++ bytes
unfolding record_of head_bytes
record_of_file h bytes = refl

-- a file that is written is never left out
file_stays : (h : FileHead) (bytes : List ℕ) (old : Option (List ℕ)) → is_left_out (record { at = file_name h.shown; after = Some bytes }) old ≡ false
file_stays h bytes old = ap (λ (t : Bool). not (t && true) && same_record (Some bytes) old) (is_file_named h.shown)

-- a file is put, by a record that is always added
file_made : (files : Files) (m n : Machine) (had has : List Rec) (h : FileHead) (bytes : List ℕ) (r : Rec)
    → change_of files (volume_of m) r ≡ record { at = file_name h.shown; after = Some (head_bytes h ++ bytes) }
    → StateSizes files (volume_of m) (r ∷ [])
    → has ≡ had ++ r ∷ [] → n ≡ insert m (file_name h.shown) (entry.File (with_bytes h bytes))
    → Follows files m n had has (put_touch (file_name h.shown) (entry.File (with_bytes h bytes)) ∷ [])
file_made files m n had has h bytes r change states pushed put =
    let q : Name = file_name h.shown in
    let e : Entry = entry.File (with_bytes h bytes) in
    subst (λ x. Follows files m x had has (put_touch q e ∷ [])) (sym put)
    (subst (λ x. Follows files m (insert m q e) had x (put_touch q e ∷ [])) (sym pushed)
    (set_one files m had q e (λ old. Some e) false r refl
    (change ∙ ap (λ (x : List ℕ). record { at = q; after = Some x }) (sym (record_of_file h bytes)))
    (file_stays h (record_of e) (get (volume_of m) q))
    states))

-- the size of a file with as many bytes as its head states
file_size : (q : Name) (h : FileHead) (bytes : List ℕ) → length bytes ≡ h.length → length q + length (head_bytes h ++ bytes) ≡ length q + (length (head_bytes h) + h.length)
file_size q h bytes long = ap (λ (n : ℕ). length q + n) (length-append (head_bytes h) bytes ∙ ap (λ (n : ℕ). length (head_bytes h) + n) long)

-- ---- a copy of the source's file

pub same_none : (o : Option (List ℕ)) → source.bytes_or_none o ≡ bytes_or_none o
same_none None = refl
same_none (Some bytes) = refl

copy_states : (files : Files) (d : Map (List ℕ)) (q : Name) (h : FileHead) (file path : List ℕ) → StateSizes files d (Copy q h file path h.length ∷ [])
copy_states files d q h file path have = ap (λ (n : ℕ). n ∷ []) (file_size q h (source.bytes_or_none (get files path)) (All-head (HasCopied files) (Copy q h file path h.length) [] have))

pub copy_made : (files : Files) (m n : Machine) (had has : List Rec) (q : Name) (h : FileHead) (file path : List ℕ) → q ≡ file_name h.shown
    → has ≡ had ++ Copy q h file path h.length ∷ [] → n ≡ insert m q (entry.File (with_bytes h (bytes_or_none (get files path)))) → Follows files m n had has (copy_touch files h path ∷ [])
copy_made files m n had has q h file path named pushed put =
    file_made files m n had has h (bytes_or_none (get files path)) (Copy q h file path h.length)
    (ap (λ (k : Name). record { at = k; after = Some (head_bytes h ++ source.bytes_or_none (get files path)) }) named ∙ ap (λ (x : List ℕ). record { at = file_name h.shown; after = Some (head_bytes h ++ x) }) (same_none (get files path)))
    (copy_states files (volume_of m) q h file path)
    pushed
    (put ∙ ap (λ (k : Name). insert m k (entry.File (with_bytes h (bytes_or_none (get files path))))) named)

-- ---- a copy of a file that is there

the_last : (front back : List ℕ) (n : ℕ) → length back ≡ n → last_bytes n (front ++ back) ≡ back
the_last front back n e =
    let at : length (front ++ back) - n ≡ length front = omega (arith, length-append front back, e) in
    ap (λ (k : ℕ). drop k (front ++ back)) at ∙ drop-append_seam front back

-- the file that stands at a name of an image whose contents are there
pub record Stands (m : Machine) (q : Name) (size : ℕ) : Type 0 where
  pub file : FileEntry
  pub at : get m q ≡ Some (entry.File file)
  pub long : length file.bytes ≡ size

pub file_stands : (held files : Map (List ℕ)) (items : Items) (q : Name) (size : ℕ) → AreThere held files items → length_in (get items q) ≡ Some size → Stands (machine_over held files items) q size
file_stands held files items q size there is = by_item (get items q) refl is
  where
    by_item : (o : Option Item) → get items q ≡ o → length_in o ≡ Some size → Stands (machine_over held files items) q size
    by_item None at is = absurd cc
    by_item (Some (Whole e)) at is = absurd cc
    by_item (Some (Head h content)) at is = record {
      file = with_bytes h (content_bytes held files (file_name h.shown) content);
      at = get-over held files items q ∙ ap (option_map (entry_over held files)) at;
      long = there q (Head h content) at ∙ cc;
    }

record_at : (m : Machine) (q : Name) (f : FileEntry) → get m q ≡ Some (entry.File f) → get (volume_of m) q ≡ Some (head_bytes (head_of f) ++ f.bytes)
unfolding record_of
record_at m q f at = get-volume_of m q ∙ ap (option_map record_of) at

-- the last bytes of its record are those of the file
pub same_bytes : (m : Machine) (h : FileHead) (from : Name) → Stands m from h.length → last_bytes h.length (source.bytes_or_none (get (volume_of m) from)) ≡ bytes_of_file (get m from)
same_bytes m h from stands =
    ap (λ (o : Option (List ℕ)). last_bytes h.length (source.bytes_or_none o)) (record_at m from stands.file stands.at)
    ∙ the_last (head_bytes (head_of stands.file)) stands.file.bytes h.length stands.long
    ∙ sym (ap bytes_of_file stands.at)

-- as many as the head states
same_long : (m : Machine) (h : FileHead) (from : Name) → Stands m from h.length → length (last_bytes h.length (source.bytes_or_none (get (volume_of m) from))) ≡ h.length
same_long m h from stands = ap length (same_bytes m h from stands ∙ ap bytes_of_file stands.at) ∙ stands.long

duplicate_states : (files : Files) (m : Machine) (q : Name) (h : FileHead) (from : Name) → Stands m from h.length → StateSizes files (volume_of m) (Dup q h from ∷ [])
duplicate_states files m q h from stands have = ap (λ (n : ℕ). n ∷ []) (file_size q h (last_bytes h.length (source.bytes_or_none (get (volume_of m) from))) (same_long m h from stands))

pub duplicate_made : (files : Files) (m n : Machine) (had has : List Rec) (q : Name) (h : FileHead) (from : Name) → Stands m from h.length → q ≡ file_name h.shown
    → has ≡ had ++ Dup q h from ∷ [] → n ≡ insert m q (entry.File (with_bytes h (bytes_of_file (get m from)))) → Follows files m n had has (duplicate_touch m h from ∷ [])
duplicate_made files m n had has q h from stands named pushed put =
    file_made files m n had has h (bytes_of_file (get m from)) (Dup q h from)
    (ap (λ (k : Name). record { at = k; after = Some (head_bytes h ++ last_bytes h.length (source.bytes_or_none (get (volume_of m) from))) }) named
    ∙ ap (λ (x : List ℕ). record { at = file_name h.shown; after = Some (head_bytes h ++ x) }) (same_bytes m h from stands))
    (duplicate_states files m q h from stands)
    pushed
    (put ∙ ap (λ (k : Name). insert m k (entry.File (with_bytes h (bytes_of_file (get m from))))) named)
