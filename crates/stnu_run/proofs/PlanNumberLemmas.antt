-- The network that an input declares has the numbers of a plan.
use Rattle.std.proofs.Common.{ℕ, List, sym, subst}
use Rattle.net_model.specs.Network.{Plan, HasPlanNumbers}
use Rattle.input_texts.specs.PlanInput.{delayed, plan_in, texts_in}
use Rattle.input_texts.specs.declared.delay.Delay.{Delay}
use Rattle.input_texts.specs.declared.delay.Delay.TheVariants.{Own, Moments}
use Rattle.input_texts.specs.declared.plan_input.Notation.TheVariants.{Text, Json}
use Rattle.input_texts.specs.declared.plan_input.PlanForm.{PlanForm}
use Rattle.input_texts.specs.declared.plan_input.Notation.{Notation}
use Rattle.input_texts.proofs.NetworkLemmas.{declared_given, lines_given}
use Rattle.plan_json.proofs.PartsLemmas.{said_declarable}
use Rattle.input_texts.proofs.DocumentLemmas.{made_of}
use Rattle.input_texts.proofs.PlanInputLemmas.{plans_have_the_delay}
use Rattle.input_texts.proofs.PlanLemmas.{declares_network}

delayed_numbers : (delay : Delay) (net : Plan) → HasPlanNumbers net → HasPlanNumbers (delayed delay net)
delayed_numbers Own net numbers = numbers
delayed_numbers (Moments moments) net numbers = record { bounds = numbers.bounds; links = numbers.links }

noted_numbers : (notation : Notation) (all : List (List ℕ)) (net : Plan) (rest : List (List ℕ)) → (texts_in notation 0).declares all net rest → HasPlanNumbers net
noted_numbers Text all net rest is = (lines_given all net rest ((declares_network 0 all net rest).0 is)).numbers
noted_numbers Json all net rest is =
    let made = made_of is.value net is.passes in
    let said = said_declarable is.value made.plan made.says in
    (declared_given made.plan.delay made.plan.parts net said.1 said.0 made.builds).numbers

-- the network of a plan has the numbers of a plan
pub declared_numbers : (form : PlanForm) (all : List (List ℕ)) (net : Plan) (rest : List (List ℕ)) → (plan_in form).declares all net rest → HasPlanNumbers net
declared_numbers form all net rest declared =
    let (plain, declares, same) = (plans_have_the_delay form 0 all net rest).0 declared in
    subst HasPlanNumbers (sym same) (delayed_numbers form.delay plain (noted_numbers form.notation all plain rest declares))
