-- What holds while a connection is served, and what that says of it in the end.
use Rattle.std.proofs.Common.{◌≡◌, ◌≢◌, ℕ, ◌+◌, ◌-◌, ◌≤◌, false, List, [], ◌++◌, length, take, Option, Some, None, Result, Ok, Err, refl, sym, ap, ◌∙◌, subst, arith, append_assoc, append-nil, length-append, length-take}
use Rattle.std.specs.Prelude.{IfSome, flat_map}
use Rattle.std.specs.Io.KnownBytes.{append_known}
use Rattle.std.proofs.lemmas.Grind.{flat_map-append}
use Rattle.std.proofs.lemmas.List.{take-append-le}
use Rattle.brpc_model.specs.LinkFailureCauses.{reading_limit}
use Rattle.brpc_model.specs.Frame.{frame_bytes}
use Rattle.brpc_model.specs.Reply.{reply_frames, replies}
use Rattle.rpc_server.specs.HeldByConnection.{Held, unused}
use Rattle.rpc_server.specs.Feeding.{has_fault}
use Rattle.sock_io.specs.declared.link.Take.{Take}
use Rattle.sock_io.specs.declared.link.Take.TheVariants as take_
use Rattle.sock_io.specs.FaultCauses.{Rose}
use Rattle.sock_io.specs.LinkHalves.{OutState, InState, IsUnused, IsTakeCount, TakeStep, end_of, given_of, taken_count}
use Rattle.loop_link.specs.ServingFedBytes.{Follows}
use Rattle.loop_link.proofs.RepliesFollowingPieces.{follows_next}
use Rattle.serve_port.specs.declared.service.ServiceEnd.{ServiceEnd}
use Rattle.serve_port.specs.declared.service.ServiceEnd.TheVariants as end_
use Rattle.serve_port.specs.ServingConnections.{AllAnswered, EndsBy, Serves}
use Rattle.serve_port.specs.ServiceSteps.{GoesOn, AnswersPiece}

-- ## Bytes that are told

same_told : (o p : Option (List ℕ)) (a : List ℕ) → p ≡ o → IfSome o (λ x. x ≡ a) → IfSome p (λ x. x ≡ a)
same_told o p a e h = subst (λ (q : Option (List ℕ)). IfSome q (λ x. x ≡ a)) (sym e) h

more_told : (o p : Option (List ℕ)) (a b all : List ℕ) → p ≡ append_known o b → a ++ b ≡ all → IfSome o (λ x. x ≡ a) → IfSome p (λ x. x ≡ all)
more_told None p a b all e w h = same_told None p all e tt
more_told (Some xs) p a b all e w h = same_told (Some (xs ++ b)) p all e (ap (λ x. x ++ b) h ∙ w)

none_told : (o p : Option (List ℕ)) (a : List ℕ) → p ≡ append_known o [] → IfSome o (λ x. x ≡ a) → IfSome p (λ x. x ≡ a)
none_told o p a e h = more_told o p a [] a e (append-nil a) h

-- ## The server

replies_next : (fed piece : List ℕ) (c : Held) → Follows fed c → replies (fed ++ piece) ≡ replies fed ++ replies (c.bytes ++ piece)
replies_next fed piece c f = ap (flat_map frame_bytes) (f.goes_on piece) ∙ flat_map-append frame_bytes (reply_frames fed) (reply_frames (c.bytes ++ piece))

-- ## While it is served

-- all that came so far was answered, and so many bytes may still come
pub record Talks (left : ℕ) (c : Held) (out : OutState) (inn : InState) : Type 0 where
  pub came : List ℕ
  pub sum : left + length came ≡ 16777216
  pub gave : IfSome inn.gave_bytes (λ x. x ≡ came)
  pub count : inn.gave ≡ length came
  pub took : IfSome out.took (λ x. x ≡ replies came)
  pub puts : out.faults ≡ 0
  pub takes : inn.faults ≡ 0
  pub finished : out.finished ≡ false
  pub follows : Follows came c
  pub fine : has_fault came ≡ false

pub begins_talking : (c : Held) (out : OutState) (inn : InState) → IsUnused out inn → c ≡ unused → Talks 16777216 c out inn
begins_talking c out inn u e = record {
  came = [];
  sum = omega arith;
  gave = u.gave_bytes;
  count = u.gave;
  took = u.took;
  puts = u.put_faults;
  takes = u.take_faults;
  finished = u.finished;
  follows = subst (Follows []) (sym e) (record { made = refl; goes_on = λ more. refl; faults = λ more. refl });
  fine = refl;
}

-- a take that gave nothing
gave_none : (left : ℕ) (c : Held) (out : OutState) (inn inn' : InState) (room : List ℕ) (t : Take) → Talks left c out inn → TakeStep inn inn' room t → given_of room t ≡ [] → taken_count t ≡ 0 → t ≢ take_.Failed → Talks left c out inn'
gave_none left c out inn inn' room t k s given counted fine =
    let was = k.count in let now = s.gave in record {
      came = k.came;
      sum = k.sum;
      gave = none_told inn.gave_bytes inn'.gave_bytes k.came (s.bytes ∙ ap (append_known inn.gave_bytes) given) k.gave;
      count = omega (arith, now, counted, was);
      took = k.took;
      puts = k.puts;
      takes = s.kept fine ∙ k.takes;
      finished = k.finished;
      follows = k.follows;
      fine = k.fine;
    }

pub waits : (left : ℕ) (c : Held) (out : OutState) (inn inn' : InState) (room : List ℕ) (t : Take) → Talks left c out inn → TakeStep inn inn' room t → (t ≡ take_.Empty) → Talks left c out inn'
waits left c out inn inn' room t k s e = gave_none left c out inn inn' room t k s (ap (given_of room) e) (ap taken_count e) (λ x. cc)

pub waits_closed : (left : ℕ) (c : Held) (out : OutState) (inn inn' : InState) (room : List ℕ) (t : Take) → Talks left c out inn → TakeStep inn inn' room t → (t ≡ take_.Closed) → Talks left c out inn'
waits_closed left c out inn inn' room t k s e = gave_none left c out inn inn' room t k s (ap (given_of room) e) (ap taken_count e) (λ x. cc)

-- a piece that came and was answered
module _ (left n : ℕ) (c c' : Held) (out out' : OutState) (inn inn' : InState) (room piece : List ℕ) (t : Take) (k : Talks left c out inn) (s : TakeStep inn inn' room t) (is : t ≡ take_.Took n) (piece_is : piece ≡ take n room) (within : length room ≤ left) where
  step : TakeStep inn inn' room (take_.Took n)
  step = subst (TakeStep inn inn' room) is s

  long : length piece ≡ n
  long = let few = step.count.1 in omega (arith, ap length piece_is, length-take n room, few)

  abbrev came' : List ℕ
  came' = k.came ++ piece

  gave' : IfSome inn'.gave_bytes (λ x. x ≡ came')
  gave' = more_told inn.gave_bytes inn'.gave_bytes k.came (take n room) came' step.bytes (ap (λ l. k.came ++ l) (sym piece_is)) k.gave

  count' : inn'.gave ≡ length came'
  count' = omega (arith, step.gave, k.count, long, length-append k.came piece)

  takes' : inn'.faults ≡ 0
  takes' = step.kept (λ x. absurd (cc)) ∙ k.takes

  fits : left - n + length came' ≡ 16777216
  fits = let few = step.count.1 in omega (arith, few, within, long, length-append k.came piece, k.sum)

  few' : length came' ≤ reading_limit
  few' = let few = step.count.1 in omega (arith, few, within, long, length-append k.came piece, k.sum)

  module _ (result : Result (Unit {0}) ServiceEnd) (a : AnswersPiece out c piece result out' c') where
    took' : IfSome out'.took (λ x. x ≡ replies k.came ++ a.part)
    took' = more_told out.took out'.took (replies k.came) a.part (replies k.came ++ a.part) a.took refl k.took

    whole : (replies k.came ++ a.part) ++ a.left ≡ replies came'
    whole = append_assoc (replies k.came) a.part a.left ∙ ap (λ l. replies k.came ++ l) a.begins ∙ sym (replies_next k.came piece c k.follows)

    all_put : a.left ≡ [] → replies k.came ++ a.part ≡ replies came'
    all_put e = sym (append-nil (replies k.came ++ a.part)) ∙ ap (λ l. (replies k.came ++ a.part) ++ l) (sym e) ∙ whole

    pub goes_on : result ≡ Ok tt → Talks (left - n) c' out' inn'
    goes_on e =
        let g = subst (λ (r : Result (Unit {0}) ServiceEnd). GoesOn out c piece r out' c' a.left) e a.goes in record {
          came = came';
          sum = fits;
          gave = gave';
          count = count';
          took = same_told out'.took out'.took (replies came') refl (subst (λ l. IfSome out'.took (λ x. x ≡ l)) (all_put g.1) took');
          puts = g.2 ∙ k.puts;
          takes = takes';
          finished = a.finished ∙ k.finished;
          follows = follows_next k.came piece c c' [] (replies (c.bytes ++ piece)) k.follows g.0.replied;
          fine = k.follows.faults piece ∙ sym g.0.fault;
        }

    ends_by : (e : ServiceEnd) → GoesOn out c piece (Err e) out' c' a.left → EndsBy e came' (replies k.came ++ a.part) c'.made (end_of out' inn')
    ends_by end_.AtEnd g = absurd g
    ends_by end_.AtLimit g = absurd g
    ends_by end_.TakeFailed g = absurd g
    ends_by end_.AtFault g = (
      record { put_is = all_put g.1; frames_are = (follows_next k.came piece c c' [] (replies (c.bytes ++ piece)) k.follows g.0.replied).made },
      k.follows.faults piece ∙ sym g.0.fault,
      record { puts = g.2 ∙ k.puts; takes = takes' },
    )
    ends_by end_.PutFailed g = (let one : 1 ≤ out'.faults = subst (λ n. Rose n out'.faults) k.puts g in omega (arith, one), takes')
    ends_by end_.NoMemory g = record { puts = g ∙ k.puts; takes = takes' }

    pub stops : (e : ServiceEnd) → result ≡ Err e → Serves (record { end = e; frames = c'.made }) (end_of out' inn')
    stops e is_err = record {
      came = came';
      put = replies k.came ++ a.part;
      left = a.left;
      gave = gave';
      count = count';
      few = few';
      took = took';
      begins = whole;
      ended = ends_by e (subst (λ (r : Result (Unit {0}) ServiceEnd). GoesOn out c piece r out' c' a.left) is_err a.goes);
    }

-- ## Where it ends

answered : (left : ℕ) (c : Held) (out : OutState) (inn : InState) → (k : Talks left c out inn) → AllAnswered k.came (replies k.came) c.made
answered left c out inn k = record { put_is = refl; frames_are = k.follows.made }

few_came : (left : ℕ) (c : Held) (out : OutState) (inn : InState) → (k : Talks left c out inn) → length k.came ≤ reading_limit
few_came left c out inn k = let s = k.sum in omega (arith, s)

-- all that came was answered, and what came behind the last take is nothing
ends_here : (left : ℕ) (c : Held) (out : OutState) (inn inn' : InState) (e : ServiceEnd) → (k : Talks left c out inn) → inn'.gave ≡ inn.gave → IfSome inn'.gave_bytes (λ x. x ≡ k.came)
    → EndsBy e k.came (replies k.came) c.made (end_of out inn') → Serves (record { end = e; frames = c.made }) (end_of out inn')
ends_here left c out inn inn' e k count gave ended = record {
  came = k.came;
  put = replies k.came;
  left = [];
  gave = gave;
  count = count ∙ k.count;
  few = few_came left c out inn k;
  took = k.took;
  begins = append-nil (replies k.came);
  ended = ended;
}

pub at_limit : (left : ℕ) (c : Held) (out : OutState) (inn : InState) → Talks left c out inn → left ≡ 0 → Serves (record { end = end_.AtLimit; frames = c.made }) (end_of out inn)
at_limit left c out inn k e = ends_here left c out inn inn end_.AtLimit k refl k.gave (answered left c out inn k, k.fine, (let s = k.sum in omega (arith, s, e)), record { puts = k.puts; takes = k.takes })

pub at_end : (left : ℕ) (c : Held) (out : OutState) (inn inn' : InState) (room : List ℕ) (t : Take) → Talks left c out inn → TakeStep inn inn' room t → t ≡ take_.End → Serves (record { end = end_.AtEnd; frames = c.made }) (end_of out inn')
at_end left c out inn inn' room t k s e = let step = subst (TakeStep inn inn' room) e s in
    ends_here left c out inn inn' end_.AtEnd k (omega (arith, step.gave)) (none_told inn.gave_bytes inn'.gave_bytes k.came step.bytes k.gave)
    (answered left c out inn k, k.fine, step.end.0 refl, record { puts = k.puts; takes = step.kept (λ x. absurd (cc)) ∙ k.takes })

pub take_failed : (left : ℕ) (c : Held) (out : OutState) (inn inn' : InState) (room : List ℕ) (t : Take) → Talks left c out inn → TakeStep inn inn' room t → t ≡ take_.Failed → Serves (record { end = end_.TakeFailed; frames = c.made }) (end_of out inn')
take_failed left c out inn inn' room t k s e = let step = subst (TakeStep inn inn' room) e s in
    ends_here left c out inn inn' end_.TakeFailed k (omega (arith, step.gave)) (none_told inn.gave_bytes inn'.gave_bytes k.came step.bytes k.gave)
    (answered left c out inn k, k.fine, (let one : 1 ≤ inn'.faults = subst (λ n. Rose n inn'.faults) k.takes (step.failed refl) in omega (arith, one)), k.puts)

-- what stands in front of the room
pub in_front : (room rest : List ℕ) (n : ℕ) (t : Take) → t ≡ take_.Took n → IsTakeCount room t → take n (room ++ rest) ≡ take n room
in_front room rest n t is count = let few = (subst (IsTakeCount room) is count).1 in take-append-le n room rest few
