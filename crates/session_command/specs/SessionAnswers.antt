-- The lines that the command `session` puts.
use Rattle.std.specs.Prelude.{ℕ, ℤ, unsigned_abs, List, [], ◌∷◌, ◌++◌, codes, Option, Some, None}
use Rattle.std.specs.Fmt.{decimal}
use Rattle.std.specs.List.{flat_map}
use Rattle.texts.specs.PrintedLines.{printed_line}
use Rattle.net_model.specs.BuiltNetwork.{which_word}
use Rattle.net_model.specs.EditedNetwork.{fault_word}
use Rattle.net_model.specs.Network.{Plan}
use Rattle.net_model.specs.declared.edit.EditFault.{EditFault}
use Rattle.net_model.specs.declared.edit.EditFault.TheVariants as fault
use Rattle.net_model.specs.declared.edit.User.TheVariants as user
use Rattle.net_model.specs.declared.ids.LinkId.{LinkId}
use Rattle.net_model.specs.declared.ids.PointId.{PointId}
use Rattle.closure_model.specs.Keys.{all_points, shape_of}
use Rattle.dispatch_net.specs.Dispatchable.{conditions_at}
use Rattle.dispatch_net.specs.declared.dispatch.Conditions.{Conditions}
use Rattle.plan_session.specs.declared.answers.Report.{Report}
use Rattle.net_model.specs.NetworkParts.{point_name}
use Rattle.refutation_certificates.specs.Certificates.{bound_name, link_name}

-- the line of a session that begins
abbrev pub ready_line : List ℕ
ready_line = printed_line (codes "ready" ∷ [])

-- the line of an edit that is accepted
abbrev pub ok_line : List ℕ
ok_line = printed_line (codes "ok" ∷ [])

-- why an edit of a network is refused, in words: a limit with what is limited, a point that is used with what uses it
abbrev pub edit_fault_words : Plan → EditFault → List (List ℕ)
edit_fault_words net (fault.Limit which) = codes "limit" ∷ which_word which ∷ []
edit_fault_words net (fault.StillUsed (user.Bound id)) = codes "still-used" ∷ codes "bound" ∷ bound_name net id ∷ []
edit_fault_words net (fault.StillUsed (user.Link id)) = codes "still-used" ∷ codes "link" ∷ link_name net id ∷ []
edit_fault_words net cause = fault_word cause ∷ []

-- the line of an edit that is refused
abbrev pub refused_line : Plan → EditFault → List ℕ
refused_line net cause = printed_line (codes "refused" ∷ edit_fault_words net cause)

-- the line of the numbers of the last accepted edit
abbrev pub report_line : Option Report → List ℕ
report_line None = printed_line (codes "report" ∷ codes "none" ∷ [])
report_line (Some report) = printed_line (codes "report" ∷ decimal report.kept ∷ decimal report.withdrawn ∷ decimal report.rounds ∷ [])

-- the line of a lower bound of a point: so many moments after another point
abbrev pub lower_bound_line : Plan → PointId → PointId × ℤ → List ℕ
lower_bound_line net point bound = printed_line (codes "after" ∷ point_name net.points point ∷ point_name net.points bound.0 ∷ decimal (unsigned_abs bound.1) ∷
    [])

-- the line of a wait of a point: the contingent point of a link, or so many moments after its activation point
abbrev pub wait_line : Plan → PointId → LinkId × ℤ → List ℕ
wait_line net point wait = printed_line (codes "wait" ∷ point_name net.points point ∷ link_name net wait.0 ∷ decimal (unsigned_abs wait.1) ∷ [])

-- the lines of what a point is executed by
abbrev pub conditions_text : Plan → PointId → Conditions → List ℕ
conditions_text net point conditions = flat_map (lower_bound_line net point) conditions.lower_bounds ++ flat_map (wait_line net point) conditions.waits

-- the last line of a table
abbrev pub table_end_line : List ℕ
table_end_line = printed_line (codes "table" ∷ codes "end" ∷ [])

-- the lines of what each point of a network is executed by in a dispatchable network of it, and the last line
abbrev pub table_text : Plan → List Conditions → List ℕ
table_text net dispatch = flat_map (λ point. conditions_text net point (conditions_at dispatch point)) (all_points (shape_of net)) ++ table_end_line
