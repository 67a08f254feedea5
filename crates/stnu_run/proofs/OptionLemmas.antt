-- Options that change nothing of a run.
use Rattle.std.proofs.Common.{◌≡◌, ◌↔◌, ℕ, List, [], ◌∷◌, ◌++◌, Some, codes, inr, refl, sym, ap, subst}
use Rattle.command_contracts.specs.Programs.{Defines, Program}
use Rattle.command_contracts.specs.Requests.{program_of_request, requested_by}
use Rattle.command_contracts.specs.WorkerCounts.{SpellsWorkers}
use Rattle.command_contracts.specs.declared.status.Status.{Status}
use Rattle.check_command.specs.EngineLaw.{ChangesTheLimitAlone, check_of}
use Rattle.check_command.specs.Engines.{engine_word}
use Rattle.check_command.specs.declared.engine.Engine.TheVariants.{Rounds}
use Rattle.run_command.specs.OrderedTexts.{FeedersPutTheLinesInOrder}
use Rattle.run_command.specs.RunCommand.{RunForm, run_request, run_syntax, with_feeders, without_feeders}
use Rattle.run_command.specs.RunPromise.{run_program}
use Rattle.run_command.specs.Words.{SayRun, SpellsFeeders}
use Rattle.stnu_run.specs.DefinedRuns.{DefinedRun, program_of}
use Rattle.stnu_run.specs.RunClaims.{HoldsOfDefinedRuns}
use Rattle.stnu_run.specs.RunLaws.{CountsChangeNothing, EngineChangesTheLimitAlone}
use Rattle.stnu_run.specs.Table.{AreInTable, WordsAreRefusedOutsideTheTable}
use Rattle.stnu_run.specs.WordLaws.{AreTaken, SameRuns}

-- words in the table are taken
taken : WordsAreRefusedOutsideTheTable → (words : List (List ℕ)) → AreInTable words → AreTaken words
taken table words there input put status defines = λ two.
    let is : status ≡ record { 0 = 2 } = ap (λ (n : ℕ). let s : Status = record { 0 = n } in s) two in
    (table words).0 (input, put, subst (λ (s : Status). DefinedRun words input put s) is defines) there

module _ (table : WordsAreRefusedOutsideTheTable)
    (workers : (program command : List ℕ) (prefix spelled others back : List (List ℕ)) (count number : ℕ) → SpellsWorkers count spelled → SpellsWorkers number others
    → SameRuns (program ∷ command ∷ (prefix ++ (spelled ++ back))) (program ∷ command ∷ (prefix ++ (others ++ back))))
    (no_workers : (program command : List ℕ) (prefix spelled back : List (List ℕ)) (count : ℕ) → SpellsWorkers count spelled → AreTaken (program ∷ command ∷ (prefix ++ (spelled ++ back)))
    → SameRuns (program ∷ command ∷ (prefix ++ (spelled ++ back))) (program ∷ command ∷ (prefix ++ back)))
    (feeders : (program : List ℕ) (prefix spelled others back : List (List ℕ)) (count number : ℕ) → SpellsFeeders count spelled → SpellsFeeders number others
    → SameRuns (program ∷ codes "run" ∷ (prefix ++ (spelled ++ back))) (program ∷ codes "run" ∷ (prefix ++ (others ++ back))))
    (ordered : FeedersPutTheLinesInOrder) (run_words : (words : List (List ℕ)) (query : RunForm) → requested_by run_syntax run_request words ≡ Some query ↔ SayRun run_syntax query words) where
  -- the program of words that say what is asked of `run`
  running : (program : List ℕ) (asked : List (List ℕ)) (query : RunForm) → SayRun run_syntax query asked → program_of (program ∷ codes "run" ∷ asked) ≡ run_program query
  running program asked query say = ap (program_of_request run_program) ((run_words asked query).1 say)

  pub counts_change_nothing : HoldsOfDefinedRuns CountsChangeNothing
  counts_change_nothing words input put status defines = record {
    workers = λ program command prefix spelled others back count number same spells also.
        (workers program command prefix spelled others back count number spells also input put status).0 (subst (λ (ws : List (List ℕ)). DefinedRun ws input put status) same defines);
    no_workers = λ program command prefix spelled back count same spells there.
        (no_workers program command prefix spelled back count spells (taken table (program ∷ command ∷ (prefix ++ (spelled ++ back))) (subst AreInTable same there)) input put status).0
        (subst (λ (ws : List (List ℕ)). DefinedRun ws input put status) same defines);
    feeders = λ program prefix spelled others back count number same spells also.
        (feeders program prefix spelled others back count number spells also input put status).0 (subst (λ (ws : List (List ℕ)). DefinedRun ws input put status) same defines);
    ordered = λ program other asked plain form same say also points_in_order is.
        let so : Defines (run_program (with_feeders form)) input put status =
        subst (λ (one : Program). Defines one input put status) (running program asked (with_feeders form) say) (subst (λ (ws : List (List ℕ)). DefinedRun ws input put status) same defines) in
        subst (λ (one : Program). Defines one points_in_order put status) (sym (running other plain (without_feeders form) also)) ((ordered form input points_in_order is put status).0 so);
  }

pub engine_changes_the_limit_alone : ChangesTheLimitAlone check_of → HoldsOfDefinedRuns EngineChangesTheLimitAlone
engine_changes_the_limit_alone engine words input put status defines = record {
  cells = λ program prefix spelled others back flags same spells also say within.
      ((engine.cells prefix spelled others back spells also flags say).same input within put status).0 (subst (λ (ws : List (List ℕ)). DefinedRun ws input put status) same defines);
  beyond = λ program prefix spelled back flags same spells say many.
      ((engine.cells prefix spelled ((codes "--engine=" ++ engine_word Rounds) ∷ []) back spells (inr refl) flags say).refused input many put status).0 (subst (λ (ws : List (List ℕ)). DefinedRun ws input put status) same defines);
  rounds = λ program prefix spelled back flags same spells say.
      ((engine.rounds prefix spelled back spells flags say).same input put status).0 (subst (λ (ws : List (List ℕ)). DefinedRun ws input put status) same defines);
}
