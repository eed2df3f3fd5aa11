-- Parts that are read side by side.
use Rattle.std.proofs.Common.{◌≡◌, ◌∙◌, ap, ℕ, List, [], ◌∷◌, Result, Ok, Err}
use Rattle.sock_words.specs.declared.kind.Kind.{Kind}
use Rattle.sock_words.specs.KindText.{kind_text}
use Rattle.brpc_model.specs.Items.{Item, To}
use Rattle.brpc_model.specs.LinePartReads.{◌<*>◌}
use Rattle.brpc_model.specs.ScriptLineFaults.{seat_in, kind_in, to_item}
use Rattle.script_items.specs.declared.fault.LineFault.{LineFault}
use Rattle.script_items.specs.declared.line.Seat.{Seat}
use Rattle.script_items.specs.PartReaderAnswers.{Answers, both_of}
use Rattle.script_items.specs.LineMeaning.{seat_of}

-- a seat and a kind of step that were both read
pub to_read : (before : List Item) (words : List (List ℕ)) (seat kind : List ℕ) (s : Seat) (k : Kind) (one : Result Seat LineFault) (other : Result Kind LineFault) →
    words ≡ seat ∷ kind ∷ [] → Answers seat_of one (seat_in before seat) → Answers kind_text other (kind_in kind) → both_of one other ≡ Ok (s, k) → to_item before words ≡ Ok (To (seat_of s) (kind_text k))
to_read before words seat kind s k (Ok a) (Ok b) split one other both =
    let pair : (a, b) ≡ (s, k) = cc in
    ap (to_item before) split
    ∙ ap (λ x. Ok (λ s t. To s t) <*> x <*> kind_in kind) one
    ∙ ap (λ x. Ok (λ s t. To s t) <*> Ok (seat_of a) <*> x) other
    ∙ ap (λ (p : Seat × Kind). Ok (To (seat_of p.0) (kind_text p.1))) pair
to_read before words seat kind s k (Ok a) (Err f) split one other both = cc
to_read before words seat kind s k (Err e) (Ok b) split one other both = cc
to_read before words seat kind s k (Err e) (Err f) split one other both = cc
