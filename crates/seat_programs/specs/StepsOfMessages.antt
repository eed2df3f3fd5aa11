-- The moves of messages into their homes and out of them, M1 and M2: the kind of each, what the view of the seat says before it, and the view
-- behind it.
use Rattle.std.specs.Prelude.{ℕ, ◌≢◌, ◌*◌, ◌<◌, List, []}
use Rattle.sock_model.specs.sock_words.specs.declared.kind.Kind.{Kind}
use Rattle.sock_model.specs.sock_words.specs.declared.kind.Kind.TheVariants.{M1}
use Rattle.sock_model.specs.sock_words.specs.declared.plain.Plan.{Plan}
use Rattle.sock_model.specs.declared.chain.Heading.{Heading}
use Rattle.sock_model.specs.declared.view.View.{View}
use Rattle.sock_model.specs.declared.view.Hand.{Hand}
use Rattle.sock_model.specs.ChainRows.{with_claim, with_right, taken_right, filled_claim}
use Rattle.seat_programs.specs.TableSteps.{MessageStep, PutMessage}
use Rattle.seat_programs.specs.StepViews.{Claims, by_claim, by_right}

-- ## The kind

-- as the schedule of a script names it
abbrev pub message_kind : MessageStep → Kind
message_kind (PutMessage q heading bytes) = M1

-- ## Before a step

-- what the view of the seat says before a step, so that the rule allows it
abbrev pub MessageMay : Plan → View → MessageStep → Type 0
MessageMay p v (PutMessage q heading bytes) = (q < p.requests) × Claims v q × (heading.label.place < 8 * p.operations) × (bytes ≢ [])

-- ## Behind a step

-- the message is in hand, the link is in hand or home again, and the link took so many bytes more
abbrev pub took_message : Heading → List ℕ → View → View
took_message heading bytes v = by_right v.rights (λ r. with_right v (taken_right r heading bytes)) v

-- the view behind a step that found this word, and this link at home
abbrev pub message_row : Plan → MessageStep → ℕ → Hand → View → View
message_row p (PutMessage q heading bytes) found hand v = by_claim v.claims (λ c. with_claim v (filled_claim c heading bytes)) v
