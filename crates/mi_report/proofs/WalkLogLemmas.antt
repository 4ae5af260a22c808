-- The log of a walk with each number of begun actions.
use Rattle.std.proofs.Common.{◌≡◌, ℕ, zero, suc, ◌+◌, true, List, [], ◌∷◌, ◌++◌, Option, refl, sym, ap, ◌∙◌, take, drop, length, get_or, arith, add-zero, length-append}
use Rattle.std.specs.List.{flat_map}
use Rattle.std.proofs.Math.Seq.{take-append_seam, take-append-add}
use Rattle.std.proofs.lemmas.List.{take-append-drop}
use Rattle.std.proofs.lemmas.Grind.{flat_map-append}
use Rattle.mi_text.specs.declared.answers.Settled.{Settled}
use Rattle.mi_base.specs.declared.answers.Cause.{Cause}
use Rattle.mi_base.specs.declared.answers.Kind.{Kind}
use Rattle.mi_base.specs.declared.answers.Kind.TheVariants.{Done, Listed, Recovered, Refused, Suspended, NoMemory}
use Rattle.mi_model.specs.Lines.{recovered_line, action_line, result_line}
use Rattle.mi_model.specs.Report.{walk_lines, last_line, report_of}
use Rattle.mi_report.specs.declared.walk.Log.{Log}
use Rattle.mi_report.specs.declared.walk.WalkLog.{WalkLog}
use Rattle.mi_report.specs.WalkLogs.{line_text, log_text, ends_from, IsMadeFor, IsRefusalLine, IsWalkKind}

-- ---- where the text ends

end_is : (n : ℕ) (names : List (List ℕ)) (k : ℕ) → get_or (ends_from n names) k (n + length (flat_map action_line names)) ≡ n + length (flat_map action_line (take k names))
end_is n [] zero = refl
end_is n [] (suc k) = refl
end_is n (a ∷ names) zero = sym (add-zero n)
end_is n (a ∷ names) (suc k) =
    let here : ℕ = length (action_line a) in
    let all : n + length (action_line a ++ flat_map action_line names) ≡ n + here + length (flat_map action_line names) = omega (arith, length-append (action_line a) (flat_map action_line names)) in
    let some : n + here + length (flat_map action_line (take k names)) ≡ n + length (action_line a ++ flat_map action_line (take k names)) = omega (arith, length-append (action_line a) (flat_map action_line (take k names))) in
    ap (λ (d : ℕ). get_or (ends_from (n + here) names) k d) all ∙ end_is (n + here) names k ∙ some

front_is : (first : List ℕ) (names : List (List ℕ)) (k : ℕ)
    → take (get_or (ends_from (length first) names) k (length (first ++ flat_map action_line names))) (first ++ flat_map action_line names) ≡ first ++ flat_map action_line (take k names)
front_is first names k =
    let all : List ℕ = flat_map action_line names in
    let some : List ℕ = flat_map action_line (take k names) in
    let rest : List ℕ = flat_map action_line (drop k names) in
    let split : all ≡ some ++ rest = ap (λ (l : List (List ℕ)). flat_map action_line l) (sym (take-append-drop k names)) ∙ flat_map-append action_line (take k names) (drop k names) in
    let end : get_or (ends_from (length first) names) k (length (first ++ all)) ≡ length first + length some =
    ap (λ (d : ℕ). get_or (ends_from (length first) names) k d) (length-append first all) ∙ end_is (length first) names k in
    ap (λ (m : ℕ). take m (first ++ all)) end
    ∙ take-append-add first all (length some)
    ∙ ap (λ (l : List ℕ). first ++ take (length some) l) split
    ∙ ap (λ (l : List ℕ). first ++ l) (take-append_seam some rest)

-- ---- the log

pub is_made : (settled : Settled) (begun : List (List ℕ)) (refusal : Option Cause) (log : WalkLog)
    → log.text.items ≡ recovered_line settled ++ flat_map action_line begun
    → log.ends.items ≡ ends_from (length (recovered_line settled)) begun
    → IsRefusalLine refusal log.refused
    → IsMadeFor settled begun refusal log
is_made settled begun refusal log text ends refused = record {
  front = λ n.
      ap (λ (t : List ℕ). take (get_or log.ends.items n (length t)) t) text
      ∙ ap (λ (e : List ℕ). take (get_or e n (length (recovered_line settled ++ flat_map action_line begun))) (recovered_line settled ++ flat_map action_line begun)) ends
      ∙ front_is (recovered_line settled) begun n;
  refused = refused;
}

-- ---- an answer of a walk

last_is : (refusal : Option Cause) (kind : Kind) → IsWalkKind refusal kind → last_line kind ≡ result_line kind
last_is refusal Done is = refl
last_is refusal Listed is = absurd is
last_is refusal (Recovered settled) is = refl
last_is refusal (Refused cause) is = refl
last_is refusal (Suspended pause) is = refl
last_is refusal NoMemory is = refl

pub closed : (settled : Settled) (begun : List (List ℕ)) (refusal : Option Cause) (kind : Kind) (n : ℕ) (log : Log)
    → log.front ≡ walk_lines true settled (take n begun) → line_text log.line ≡ result_line kind → IsWalkKind refusal kind
    → log_text log ≡ report_of kind settled true begun n
closed settled begun refusal kind n log front line is =
    ap (λ (text : List ℕ). text ++ line_text log.line) front
    ∙ ap (λ (text : List ℕ). walk_lines true settled (take n begun) ++ text) (line ∙ sym (last_is refusal kind is))
