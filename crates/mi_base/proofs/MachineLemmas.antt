-- The machine and the volume's map, and what typed look-ups tell.
use Rattle.std.proofs.Common.{◌≡◌, ℕ, true, false, List, ◌∷◌, length, Option, Some, None, Result, Ok, Err, refl, sym, ap, ◌∙◌, arith, inl, inr}
use Rattle.std.specs.Prelude.{option_map}
use Rattle.std.specs.FinMap.{get}
use Rattle.std.proofs.lemmas.Bool.{cases_Bool}
use Rattle.mi_text.specs.Maps.{Name, Map}
use Rattle.mi_text.proofs.MapLemmas.{same, get-map_values}
use Rattle.mi_base.specs.declared.rec_error.RecFault.{RecFault}
use Rattle.mi_base.specs.declared.entry.FileEntry.{FileEntry}
use Rattle.mi_base.specs.declared.entry.FileHead.{FileHead}
use Rattle.mi_base.specs.declared.entry.RegValue.{RegValue}
use Rattle.mi_base.specs.declared.entry.ValueKey.{ValueKey}
use Rattle.mi_base.specs.declared.entry.Shortcut.{Shortcut}
use Rattle.mi_base.specs.declared.entry.Variable.{Variable}
use Rattle.mi_base.specs.declared.entry.Client.{Client}
use Rattle.mi_base.specs.declared.entry.Product.{Product}
use Rattle.mi_base.specs.declared.entry.Entry.{Entry}
use Rattle.mi_base.specs.declared.entry.Entry.TheVariants as entry
use Rattle.mi_base.specs.Limits.{are_bytes, fits}
use Rattle.mi_base.specs.Names.{file_name, folder_name, key_name, value_name, shortcut_name, variable_name, client_name, product_name, system_name}
use Rattle.mi_base.specs.Spelling.{name_of, record_of}
use Rattle.mi_base.specs.SpelledMaps.{is_area, spelled_at}
use Rattle.mi_base.specs.Reading.{◌>>=◌}
use Rattle.mi_base.specs.Records.{names_file, head_at, with_bytes, file_of, entry_of, file_head_of}
use Rattle.mi_base.specs.Machine.{Machine, Fits, IsMachine, volume_of, ok_entry, read_entry, machine_of, as_file, as_folder, as_key, as_value, as_shortcut, as_variable, as_client, as_product, as_system, AgreeEverywhere, head_of_entry}
use Rattle.mi_base.proofs.EntryLemmas.{spells, reads, same_entry, outside}
use Rattle.mi_base.proofs.HeadLemmas.{head_takes}
use Rattle.mi_base.proofs.SpelledLemmas.{IsSpelling, spelled_map-map_values, spelled_map-Spelled}

-- ---- the two maps

ok_is_some : (r : Result Entry RecFault) (e : Entry) → ok_entry r ≡ Some e → r ≡ Ok e
ok_is_some (Ok x) e is = let same : x ≡ e = cc in ap (λ (y : Entry). Ok y) same
ok_is_some (Err f) e is = absurd cc

spelling : IsSpelling name_of record_of Fits read_entry
spelling = record {
  reads = λ e f. ap ok_entry (reads e f.0 f.1);
  spells = λ n b e is. let s = spells n b e (ok_is_some (entry_of n b) e is) in (s.named, s.spelled, (s.is, s.right));
  outside = outside;
}

pub machine_back : (m : Machine) → IsMachine m → machine_of (volume_of m) ≡ Ok m
unfolding volume_of
machine_back m is = spelled_map-map_values name_of record_of Fits read_entry spelling m is

pub machine_is : (d : Map (List ℕ)) (m : Machine) → machine_of d ≡ Ok m → IsMachine m
machine_is d m is = (spelled_map-Spelled name_of record_of Fits read_entry spelling d m is).machine

pub get-volume_of : (m : Machine) (q : Name) → get (volume_of m) q ≡ option_map record_of (get m q)
unfolding volume_of
get-volume_of m q = get-map_values record_of m q

pub volume_same : (d : Map (List ℕ)) (m : Machine) → machine_of d ≡ Ok m → (q : Name) → is_area q ≡ false → get (volume_of m) q ≡ get d q
volume_same d m is q free = get-volume_of m q ∙ sym ((spelled_map-Spelled name_of record_of Fits read_entry spelling d m is).held q free)

pub entry_same : (d : Map (List ℕ)) (m : Machine) → machine_of d ≡ Ok m → (q : Name) → get m q ≡ spelled_at read_entry d q
entry_same d m is q = (spelled_map-Spelled name_of record_of Fits read_entry spelling d m is).entry q

-- ---- typed look-ups

file_some : (o : Option Entry) (f : FileEntry) → as_file o ≡ Some f → o ≡ Some (entry.File f)
file_some (Some (entry.File g)) f is = let same : g ≡ f = cc in ap (λ (x : FileEntry). Some (entry.File x)) same
file_some None f is = absurd cc
file_some (Some (entry.Folder a)) f is = absurd cc
file_some (Some (entry.Value a b)) f is = absurd cc
file_some (Some (entry.Key a b)) f is = absurd cc
file_some (Some (entry.Shortcut a)) f is = absurd cc
file_some (Some (entry.Variable a)) f is = absurd cc
file_some (Some (entry.Client a)) f is = absurd cc
file_some (Some (entry.Product a)) f is = absurd cc
file_some (Some (entry.System a b)) f is = absurd cc

folder_some : (o : Option Entry) (t : List ℕ) → as_folder o ≡ Some t → o ≡ Some (entry.Folder t)
folder_some (Some (entry.Folder a)) t is = let same : a ≡ t = cc in ap (λ (x : List ℕ). Some (entry.Folder x)) same
folder_some None t is = absurd cc
folder_some (Some (entry.File a)) t is = absurd cc
folder_some (Some (entry.Value a b)) t is = absurd cc
folder_some (Some (entry.Key a b)) t is = absurd cc
folder_some (Some (entry.Shortcut a)) t is = absurd cc
folder_some (Some (entry.Variable a)) t is = absurd cc
folder_some (Some (entry.Client a)) t is = absurd cc
folder_some (Some (entry.Product a)) t is = absurd cc
folder_some (Some (entry.System a b)) t is = absurd cc

key_some : (o : Option Entry) (t : List ℕ) → as_key o ≡ Some t → (root : ℕ) × (o ≡ Some (entry.Key root t))
key_some (Some (entry.Key root a)) t is = let same : a ≡ t = cc in (root, ap (λ (x : List ℕ). Some (entry.Key root x)) same)
key_some None t is = absurd cc
key_some (Some (entry.File a)) t is = absurd cc
key_some (Some (entry.Folder a)) t is = absurd cc
key_some (Some (entry.Value a b)) t is = absurd cc
key_some (Some (entry.Shortcut a)) t is = absurd cc
key_some (Some (entry.Variable a)) t is = absurd cc
key_some (Some (entry.Client a)) t is = absurd cc
key_some (Some (entry.Product a)) t is = absurd cc
key_some (Some (entry.System a b)) t is = absurd cc

value_some : (o : Option Entry) (t : List ℕ) (v : RegValue) → as_value o ≡ Some (t, v) → (k : ValueKey) × (k.shown ≡ t) × (o ≡ Some (entry.Value k v))
value_some (Some (entry.Value k w)) t v is =
    let pair : (k.shown, w) ≡ (t, v) = some_pair (k.shown, w) (t, v) is in
    let same : w ≡ v = ap (λ (p : List ℕ × RegValue). p.1) pair in
    (k, ap (λ (p : List ℕ × RegValue). p.0) pair, ap (λ (x : RegValue). Some (entry.Value k x)) same)
  where
    some_pair : (a b : List ℕ × RegValue) → Some a ≡ Some b → a ≡ b
    some_pair a b e = cc
value_some None t v is = absurd cc
value_some (Some (entry.File a)) t v is = absurd cc
value_some (Some (entry.Folder a)) t v is = absurd cc
value_some (Some (entry.Key a b)) t v is = absurd cc
value_some (Some (entry.Shortcut a)) t v is = absurd cc
value_some (Some (entry.Variable a)) t v is = absurd cc
value_some (Some (entry.Client a)) t v is = absurd cc
value_some (Some (entry.Product a)) t v is = absurd cc
value_some (Some (entry.System a b)) t v is = absurd cc

shortcut_some : (o : Option Entry) (s : Shortcut) → as_shortcut o ≡ Some s → o ≡ Some (entry.Shortcut s)
shortcut_some (Some (entry.Shortcut a)) s is = let same : a ≡ s = cc in ap (λ (x : Shortcut). Some (entry.Shortcut x)) same
shortcut_some None s is = absurd cc
shortcut_some (Some (entry.File a)) s is = absurd cc
shortcut_some (Some (entry.Folder a)) s is = absurd cc
shortcut_some (Some (entry.Value a b)) s is = absurd cc
shortcut_some (Some (entry.Key a b)) s is = absurd cc
shortcut_some (Some (entry.Variable a)) s is = absurd cc
shortcut_some (Some (entry.Client a)) s is = absurd cc
shortcut_some (Some (entry.Product a)) s is = absurd cc
shortcut_some (Some (entry.System a b)) s is = absurd cc

variable_some : (o : Option Entry) (v : Variable) → as_variable o ≡ Some v → o ≡ Some (entry.Variable v)
variable_some (Some (entry.Variable a)) v is = let same : a ≡ v = cc in ap (λ (x : Variable). Some (entry.Variable x)) same
variable_some None v is = absurd cc
variable_some (Some (entry.File a)) v is = absurd cc
variable_some (Some (entry.Folder a)) v is = absurd cc
variable_some (Some (entry.Value a b)) v is = absurd cc
variable_some (Some (entry.Key a b)) v is = absurd cc
variable_some (Some (entry.Shortcut a)) v is = absurd cc
variable_some (Some (entry.Client a)) v is = absurd cc
variable_some (Some (entry.Product a)) v is = absurd cc
variable_some (Some (entry.System a b)) v is = absurd cc

client_some : (o : Option Entry) (c : Client) → as_client o ≡ Some c → o ≡ Some (entry.Client c)
client_some (Some (entry.Client a)) c is = let same : a ≡ c = cc in ap (λ (x : Client). Some (entry.Client x)) same
client_some None c is = absurd cc
client_some (Some (entry.File a)) c is = absurd cc
client_some (Some (entry.Folder a)) c is = absurd cc
client_some (Some (entry.Value a b)) c is = absurd cc
client_some (Some (entry.Key a b)) c is = absurd cc
client_some (Some (entry.Shortcut a)) c is = absurd cc
client_some (Some (entry.Variable a)) c is = absurd cc
client_some (Some (entry.Product a)) c is = absurd cc
client_some (Some (entry.System a b)) c is = absurd cc

product_some : (o : Option Entry) (p : Product) → as_product o ≡ Some p → o ≡ Some (entry.Product p)
product_some (Some (entry.Product a)) p is = let same : a ≡ p = cc in ap (λ (x : Product). Some (entry.Product x)) same
product_some None p is = absurd cc
product_some (Some (entry.File a)) p is = absurd cc
product_some (Some (entry.Folder a)) p is = absurd cc
product_some (Some (entry.Value a b)) p is = absurd cc
product_some (Some (entry.Key a b)) p is = absurd cc
product_some (Some (entry.Shortcut a)) p is = absurd cc
product_some (Some (entry.Variable a)) p is = absurd cc
product_some (Some (entry.Client a)) p is = absurd cc
product_some (Some (entry.System a b)) p is = absurd cc

system_some : (o : Option Entry) (t : List ℕ) → as_system o ≡ Some t → (property : List ℕ) × (o ≡ Some (entry.System property t))
system_some (Some (entry.System property a)) t is = let same : a ≡ t = cc in (property, ap (λ (x : List ℕ). Some (entry.System property x)) same)
system_some None t is = absurd cc
system_some (Some (entry.File a)) t is = absurd cc
system_some (Some (entry.Folder a)) t is = absurd cc
system_some (Some (entry.Value a b)) t is = absurd cc
system_some (Some (entry.Key a b)) t is = absurd cc
system_some (Some (entry.Shortcut a)) t is = absurd cc
system_some (Some (entry.Variable a)) t is = absurd cc
system_some (Some (entry.Client a)) t is = absurd cc
system_some (Some (entry.Product a)) t is = absurd cc

-- what stands at the same name of another machine with the same record is the same
known : (n : Machine) → IsMachine n → (e f : Entry) → Fits e → get n (name_of e) ≡ Some f → record_of e ≡ record_of f → get n (name_of e) ≡ Some e
known n own e f fits at bytes =
    let there = own (name_of e) f at in
    let same : e ≡ f = same_entry e f fits.0 fits.1 there.1.0 there.1.1 (sym there.0) bytes in
    at ∙ ap (λ (x : Entry). Some x) (sym same)

holds : (m n : Machine) → IsMachine n → AgreeEverywhere m n → (e : Entry) → Fits e → get m (name_of e) ≡ Some e → get n (name_of e) ≡ Some e
unfolding record_of
holds m n own a (entry.File f) fits at = file_some (get n (file_name f.shown)) f (sym (a.files f.shown) ∙ ap as_file at)
holds m n own a (entry.Folder p) fits at = folder_some (get n (folder_name p)) p (sym (a.folders p) ∙ ap as_folder at)
holds m n own a (entry.Value k v) fits at =
    let there = value_some (get n (value_name k.root k.key k.shown)) k.shown v (sym (a.values k.root k.key k.shown) ∙ ap as_value at) in
    known n own (entry.Value k v) (entry.Value there.0 v) fits there.2 (ap (λ (t : List ℕ). record_of (entry.Value (record k { shown = t }) v)) (sym there.1))
holds m n own a (entry.Key root p) fits at =
    let there = key_some (get n (key_name root p)) p (sym (a.keys root p) ∙ ap as_key at) in
    known n own (entry.Key root p) (entry.Key there.0 p) fits there.1 refl
holds m n own a (entry.Shortcut s) fits at = shortcut_some (get n (shortcut_name s.shown)) s (sym (a.shortcuts s.shown) ∙ ap as_shortcut at)
holds m n own a (entry.Variable v) fits at = variable_some (get n (variable_name v.system v.name)) v (sym (a.variables v.system v.name) ∙ ap as_variable at)
holds m n own a (entry.Client c) fits at = client_some (get n (client_name c.component.number c.product.number)) c (sym (a.clients c.component.number c.product.number) ∙ ap as_client at)
holds m n own a (entry.Product p) fits at = product_some (get n (product_name p.code.number)) p (sym (a.products p.code.number) ∙ ap as_product at)
holds m n own a (entry.System p t) fits at =
    let there = system_some (get n (system_name p)) t (sym (a.systems p) ∙ ap as_system at) in
    known n own (entry.System p t) (entry.System there.0 t) fits there.1 refl

turned : (m n : Machine) → AgreeEverywhere m n → AgreeEverywhere n m
turned m n a = record {
  files = λ p. sym (a.files p);
  folders = λ p. sym (a.folders p);
  values = λ r k t. sym (a.values r k t);
  keys = λ r k. sym (a.keys r k);
  shortcuts = λ p. sym (a.shortcuts p);
  variables = λ s t. sym (a.variables s t);
  clients = λ c p. sym (a.clients c p);
  products = λ c. sym (a.products c);
  systems = λ p. sym (a.systems p);
}

agree : (m n : Machine) → IsMachine m → IsMachine n → AgreeEverywhere m n → (q : Name) (o p : Option Entry) → get m q ≡ o → get n q ≡ p → get m q ≡ get n q
agree m n own_m own_n a q (Some e) p at_m at_n =
    let own = own_m q e at_m in
    at_m ∙ sym (ap (get n) (sym own.0) ∙ holds m n own_n a e own.1 (ap (get m) own.0 ∙ at_m))
agree m n own_m own_n a q None (Some e) at_m at_n =
    let own = own_n q e at_n in
    ap (get m) (sym own.0) ∙ holds n m own_m (turned m n a) e own.1 (ap (get n) own.0 ∙ at_n) ∙ sym at_n
agree m n own_m own_n a q None None at_m at_n = at_m ∙ sym at_n

-- machines that answer each typed look-up alike are the same
pub same_machine : (m n : Machine) → IsMachine m → IsMachine n → AgreeEverywhere m n → m ≡ n
same_machine m n own_m own_n a = same m n (λ q. agree m n own_m own_n a q (get m q) (get n q) refl refl)

-- ---- heads

-- the head that is read of a file's record is that of the entry, with the same faults
pub head_same : (path bytes : List ℕ) → are_bytes bytes ≡ true → file_head_of (102 ∷ 47 ∷ path) bytes ≡ (entry_of (102 ∷ 47 ∷ path) bytes >>= head_of_entry)
unfolding file_head_of entry_of file_of
head_same path bytes good =
    elim (cases_Bool (names_file path)) [
      | inl named ↦ rw (good, named) (read (head_at 0 path bytes) refl)
      | inr other ↦ rw (good, other) refl
    ]
  where
    read : (r : Result (FileHead × List ℕ) RecFault) → head_at 0 path bytes ≡ r → (r >>= λ h. Ok h.0) ≡ ((r >>= λ h. Ok (entry.File (with_bytes h.0 h.1))) >>= head_of_entry)
    read (Ok x) is = let t = head_takes path bytes x good is in let n : length x.1 ≡ (x.0).length = (let l = t.long in omega arith) in ap (λ k. Ok (record x.0 { length = k })) (sym n)
    read (Err f) is = refl
