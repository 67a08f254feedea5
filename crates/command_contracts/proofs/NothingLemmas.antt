-- A run that ends for want of memory before it has begun is one of any program.
use Rattle.std.proofs.Common.{◌≡◌, ℕ, [], inl, inr, refl, sym, ap, ◌∙◌, append-nil, arith}
use Rattle.std.proofs.lemmas.List.{append_cancel_left}
use Rattle.plan_port.specs.Talk.{Seen}
use Rattle.plan_port.proofs.Talks.{WhereShown-same}
use Rattle.command_engine.specs.Endings.{end_number}
use Rattle.command_engine.specs.declared.endings.End.{End}
use Rattle.command_engine.specs.declared.endings.End.TheVariants.{Done, Refused, Fault, Limit, EventRefused}
use Rattle.command_engine.specs.declared.endings.Status.TheVariants.{NoMemory}
use Rattle.command_engine.proofs.EndLemmas.{nothing_served}
use Rattle.command_contracts.specs.Programs.{Program, serves, prints, ServesProgram, KeepsPromise, HasCauses, KeepsWithoutMemory, RunsAs}
use Rattle.command_contracts.specs.declared.status.Status.{Status}

abbrev no_memory : Status
no_memory = record { 0 = 8 }

nothing_started : (program : Program) (now : Seen) → ServesProgram program no_memory now now
nothing_started (serves machine start promise) now = (NoMemory, refl, nothing_served machine start now)
nothing_started (prints answers) now = inr (refl, refl)

nothing_put : (program : Program) (now : Seen) → KeepsWithoutMemory program no_memory now now
nothing_put (serves machine start promise) now = λ is.
    WhereShown-same now.talk _ (λ was. WhereShown-same now.left _ (λ input put all. inl (append_cancel_left was.put put [] (sym all ∙ sym (append-nil was.put)))))
nothing_put (prints answers) now = λ is. refl

never_eight : (end : End) → ◌≡◌ {A = ℕ} 8 (end_number end) → ⊥
never_eight Done is = omega arith
never_eight Refused is = omega arith
never_eight Fault is = omega arith
never_eight Limit is = omega arith
never_eight EventRefused is = omega arith

nothing_kept : (program : Program) (now : Seen) → KeepsPromise program no_memory now now
nothing_kept (serves machine start promise) now = λ end is. absurd (never_eight end (ap (λ (s : Status). s.0) is))
nothing_kept (prints answers) now = tt

nothing_caused : (program : Program) (now : Seen) → HasCauses program no_memory now now
nothing_caused program now = record {
  read = λ is. absurd (omega arith);
  write = λ is. absurd (omega arith);
  memory = λ is. (refl, refl);
  others = λ read write memory. absurd (memory refl);
}

pub nothing_runs : (program : Program) (now : Seen) → RunsAs program no_memory now now
nothing_runs program now = record { served = nothing_started program now; kept = nothing_kept program now; causes = nothing_caused program now; memory = nothing_put program now }
