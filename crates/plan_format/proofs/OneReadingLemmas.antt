-- The lines of a text give one thing at most.
use Rattle.std.proofs.Common.{◌≡◌, ℕ, ◌+◌, List, ◌++◌, length, drop, Some, Ok, Err, sym, ap, ◌∙◌, arith}
use Rattle.std.proofs.Math.Seq.{drop-append_seam}
use Rattle.net_model.specs.Network.{Plan}
use Rattle.net_model.specs.BuiltNetwork.{built, delayed, declared_net, place_of}
use Rattle.net_model.specs.declared.fault.BuildFault.{BuildFault}
use Rattle.net_model.specs.declared.format.FormatFault.{FormatFault}
use Rattle.plan_format.specs.PlanFaults.{IsFirstPlanFault}
use Rattle.plan_format.specs.PlanNetwork.{DeclaresNetwork, RefusesPart, Reading, network, faulty, refused, IsReading}
use Rattle.plan_format.specs.PlanReading.{initial}
use Rattle.plan_format.proofs.GrammarLemmas.{Declared, read_from, plan_read}
use Rattle.plan_format.proofs.FaultLemmas.{fault_is, fault_one}

-- what is read of lines that declare a network, or of which a part is refused
declared_of : (lines : List (List ℕ)) (net : Plan) (rest : List (List ℕ)) (is : DeclaresNetwork lines net rest) → read_from initial 1 lines ≡ Ok (record { delay = is.delay; parts = is.parts; lines = is.numbers; end = length is.plan })
declared_of lines net rest is = plan_read lines is.plan rest is.delay is.parts is.numbers is.whole is.is_plan

refused_of : (lines : List (List ℕ)) (line : ℕ) (fault : BuildFault) (is : RefusesPart lines line fault) → read_from initial 1 lines ≡ Ok (record { delay = is.delay; parts = is.parts; lines = is.numbers; end = length is.plan })
refused_of lines line fault is = plan_read lines is.plan is.rest is.delay is.parts is.numbers is.whole is.is_plan

same_declared : (lines : List (List ℕ)) (a b : Declared) → read_from initial 1 lines ≡ Ok a → read_from initial 1 lines ≡ Ok b → a ≡ b
same_declared lines a b x y = cc

rest_is : (lines plan rest : List (List ℕ)) → lines ≡ plan ++ rest → drop (length plan) lines ≡ rest
rest_is lines plan rest whole = ap (drop (length plan)) whole ∙ drop-append_seam plan rest

network_one : (lines : List (List ℕ)) (net other : Plan) (rest after : List (List ℕ)) → DeclaresNetwork lines net rest → DeclaresNetwork lines other after → network net rest ≡ network other after
network_one lines net other rest after is also =
    let same = same_declared lines _ _ (declared_of lines net rest is) (declared_of lines other after also) in
    let parts : declared_net is.delay is.parts ≡ declared_net also.delay also.parts = ap (λ (d : Declared). declared_net d.delay d.parts) same in
    let net_is : net ≡ other = (let a = is.builds in let b = also.builds in cc) in
    let cut : drop (length is.plan) lines ≡ drop (length also.plan) lines = ap (λ (d : Declared). drop d.end lines) same in
    let rest_one : rest ≡ after = sym (rest_is lines is.plan rest is.whole) ∙ (cut ∙ rest_is lines also.plan after also.whole) in
    cc

no_fault : (lines : List (List ℕ)) (declared : Declared) (fault : FormatFault) → read_from initial 1 lines ≡ Ok declared → IsFirstPlanFault lines fault → ⊥
no_fault lines declared fault good first = let bad = fault_is lines fault first in absurd (cc)

no_refusal : (lines : List (List ℕ)) (net : Plan) (rest : List (List ℕ)) (line : ℕ) (fault : BuildFault) → DeclaresNetwork lines net rest → RefusesPart lines line fault → ⊥
no_refusal lines net rest line fault is refuses =
    let same = same_declared lines _ _ (declared_of lines net rest is) (refused_of lines line fault refuses) in
    let parts : built is.parts ≡ built refuses.parts = ap (λ (d : Declared). built d.parts) same in
    let good = is.builds in
    let bad : declared_net is.delay is.parts ≡ Err fault = ap (delayed is.delay) (parts ∙ refuses.part.refused) in
    absurd (cc)

refusal_one : (lines : List (List ℕ)) (line also_line : ℕ) (fault other : BuildFault) → RefusesPart lines line fault → RefusesPart lines also_line other → refused line fault ≡ refused also_line other
refusal_one lines line also_line fault other is also =
    let same = same_declared lines _ _ (refused_of lines line fault is) (refused_of lines also_line other also) in
    let parts : built is.parts ≡ built also.parts = ap (λ (d : Declared). built d.parts) same in
    let numbers : is.numbers ≡ also.numbers = ap (λ (d : Declared). d.lines) same in
    let fault_is : fault ≡ other = (let a = is.part.refused in let b = also.part.refused in cc) in
    let place : Some (is.part.index + 1) ≡ Some (also.part.index + 1) = sym is.part.place ∙ (ap place_of fault_is ∙ also.part.place) in
    let above : is.part.index + 1 ≡ also.part.index + 1 = cc in
    let index : is.part.index ≡ also.part.index = omega (arith, above) in
    let line_is : line ≡ also_line = (let a = is.part.at_line in let b = also.part.at_line in cc) in
    cc

pub one_reading : (lines : List (List ℕ)) (reading other : Reading) → IsReading lines reading → IsReading lines other → reading ≡ other
one_reading lines (network net rest) (network other after) is also = network_one lines net other rest after is also
one_reading lines (network net rest) (faulty fault) is also = absurd (no_fault lines _ fault (declared_of lines net rest is) also)
one_reading lines (network net rest) (refused line fault) is also = absurd (no_refusal lines net rest line fault is also)
one_reading lines (faulty fault) (network net rest) is also = absurd (no_fault lines _ fault (declared_of lines net rest also) is)
one_reading lines (faulty fault) (faulty other) is also = ap faulty (fault_one lines fault other is also)
one_reading lines (faulty fault) (refused line why) is also = absurd (no_fault lines _ fault (refused_of lines line why also) is)
one_reading lines (refused line fault) (network net rest) is also = absurd (no_refusal lines net rest line fault also is)
one_reading lines (refused line fault) (faulty why) is also = absurd (no_fault lines _ why (refused_of lines line fault is) also)
one_reading lines (refused line fault) (refused also_line other) is also = refusal_one lines line also_line fault other is also
