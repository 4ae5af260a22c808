use Rattle.std.proofs.Common.{◌≡◌, [], ◌++◌, drop, map}
use Rattle.mi_idt.specs.Head.{keys_fault, places_of}
use Rattle.mi_idt.proofs.head.read_keys.Given as goal

abbrev pub invariant-loop-key : goal.invariant-loop-key
invariant-loop-key l = record {
  faults : keys_fault (map (λ b. b.now) l.names.list.items) l.places.items (map (λ b. b.now) (drop l.key-index l.keys)) ≡ keys_fault (map (λ b. b.now) l.names.list.items) [] (map (λ b. b.now) l.keys);
  read : l.places.items ++ places_of (map (λ b. b.now) l.names.list.items) (map (λ b. b.now) (drop l.key-index l.keys)) ≡ places_of (map (λ b. b.now) l.names.list.items) (map (λ b. b.now) l.keys);
}
