-- What readers say of calls has its cause: each response ends a call of whose versions it is, and each error that they post has one of their codes.
use Rattle.std.proofs.Common.{◌≡◌, ◌≢◌, ℕ, zero, suc, ◌+◌, ◌-◌, ◌*◌, ◌<◌, ◌≤◌, ◌⊎◌, inl, inr, ◌&&◌, Bool, true, false, cond, eqb, eqb-true, nat_lt, ltb-true, List, [], ◌∷◌, ◌++◌, slice_get, Option, None, Some, IsSome, length, ℤ, pos, negsuc, append_assoc, refl, sym, ap, ◌∙◌, subst, arith}
use Rattle.std.specs.List.{AllByRecursion}
use Rattle.sock_words.specs.PackedWords.{socket_id_slot, at_word_first, at_word_slot, at_word_link, at_word_attempt, call_id, id_slot, id_first, NO_SOCKET}
use Rattle.sock_words.specs.declared.plain.Plan.{Plan}
use Rattle.seat_programs.specs.brpc_model.specs.Meta.{ResponseMeta}
use Rattle.seat_programs.specs.brpc_model.specs.Frame.{Frame}
use Rattle.seat_programs.specs.brpc_model.specs.FrameStream as streams
use Rattle.seat_programs.specs.brpc_model.specs.LinkFailureCauses.{HasFault}
use Rattle.seat_programs.specs.brpc_model.specs.ResponseOutcome.{by_code, outcome_by, ending_of}
use Rattle.corr_core.specs.IdSlotWord.{parts, error_of, code_of, attempt_of}
use Rattle.corr_core.specs.declared.marks.Plan.{Plan as IdPlan}
use Rattle.corr_core.specs.IdRangeVersions.{is_early}
use Rattle.sock_message.specs.Asked.{Asked}
use Rattle.seat_programs.specs.declared.task.Task.{Task}
use Rattle.seat_programs.specs.Asides.{Taking, Bytes, Nothing, Closed}
use Rattle.seat_programs.specs.LoopHeads.{Version, Reading, Locks, Opens, Reads, Discards, WasGone, WasStale, WasCrowded, WasQueued, HasLocked, Locking, NotThere, Has, Ended}
use Rattle.seat_programs.specs.Programs.{Program, Rest, Say, Round, add_reference, release, set_failed}
use Rattle.seat_programs.specs.PostPrograms.{is_stale, post_with, decided}
use Rattle.seat_programs.specs.ReaderProgram.{LIMIT, has_response, slot_in, version_in, answer, answered, responses, last_of, ended_by, read_on, took_bytes, took, reads_round, discarded, discards_round, opens_round, kept_for, ends_with, posted_last, post_each, thrown_away, read, reader}
use Rattle.call_stories.specs.LinkReadingLists.{gave_in}
use Rattle.call_stories.specs.Scenes.{Birth, Scene, Came, IsResponseTo, WasPosted, HasFaulted, IsOther, of_other, by_compression, WhyEnded}
use Rattle.call_stories.specs.Says.{Shape, HasShape, Locked, Mark, with_slot, with_owed, with_bytes, IsFree, taken_out, SaidBy, GoesFrom, CameFrom, IsReading, Again, LeavesLock, Leaves'}
use Rattle.call_stories.proofs.LastingCallStories.{far, kept_on}
use Rattle.call_stories.proofs.PostLoopCauses.{speech, way, plain_way, and_left, and_right, again_same, follows_on, end_says, decide_says, decided_says, failed_of, Exits, post_with_says}
use Rattle.call_stories.proofs.CausedCallPrograms.{release_says, address_says, set_failed_says, again_on}
use Rattle.call_stories.proofs.StreamFramesStay.{frames_follow, faults_more, faults_follow}

module _ (p : Plan) (q : IdPlan) (clients : List (List Task)) (gives : ℕ → List ℕ) where
  open speech p q clients gives use {Tells, Later', Next, Ends}

  abbrev AreKept : Scene → ℕ → List Frame → Type 0
  AreKept w k fs = AllByRecursion (CameFrom p q clients gives w k) fs

  -- ## A response

  some_response : (r : Option ResponseMeta) → has_response r ≡ true → IsSome r
  some_response (Some r) e = refl
  some_response None e = absurd (let z : false ≡ true = e in cc)

  abbrev sign : ℤ → ℕ
  sign (pos zero) = 0
  sign (pos (suc n)) = 1
  sign (negsuc n) = 1

  module _ (w : Scene) (k n id : ℕ) (asked : Asked) (frame : Frame) (inside : k < p.links) (came : Came w k n frame) (is : IsResponseTo id asked frame) where
    by_its_code : (r : ResponseMeta) → frame.meta.compress_type ≡ pos 0 → frame.meta.response ≡ Some r → (d : ℤ) → r.code ≡ d → WhyEnded p q clients gives w (record { id = id; asked = asked }) (by_code id frame d)
    by_its_code r plain there (pos zero) c = (refl, (k, n, frame, inside, came, is, ((plain, r, there, c), refl, refl)))
    by_its_code r plain there (pos (suc d)) c = (refl, (k, n, frame, inside, came, is, (plain, r, there, c)), λ e. let z : 1 ≡ 0 = ap sign e in omega (arith, z))
    by_its_code r plain there (negsuc d) c = (refl, (k, n, frame, inside, came, is, (plain, r, there, c)), λ e. let z : 1 ≡ 0 = ap sign e in omega (arith, z))

    pub by_frame : (c : ℤ) → frame.meta.compress_type ≡ c → (r : Option ResponseMeta) → frame.meta.response ≡ r → WhyEnded p q clients gives w (record { id = id; asked = asked }) (outcome_by id frame c r)
    by_frame (pos zero) plain (Some r) there = by_its_code r plain there r.code refl
    by_frame (pos zero) plain None there = absurd (let z : false ≡ true = subst IsSome there is.0 in cc)
    by_frame (pos (suc d)) packed r there = (refl, by_compression refl (k, n, frame, inside, came, is, λ e. let z : 1 ≡ 0 = ap sign (sym packed ∙ e) in omega (arith, z)))
    by_frame (negsuc d) packed r there = (refl, by_compression refl (k, n, frame, inside, came, is, λ e. let z : 1 ≡ 0 = ap sign (sym packed ∙ e) in omega (arith, z)))

  -- the call of a lock ends with a response of one of its versions
  answer_says : (w : Scene) (m : Mark) (frame : Frame) (first : ℕ) (shape : Shape) (k : ℕ) (next : Program) → m.slot ≡ Locked (slot_in frame) first shape → m.owes ≡ [] → m.makes ≡ [] → first < version_in frame → version_in frame < first + shape.range → CameFrom p q clients gives w k frame → k < p.links → Ends w m next
      → Tells w m (answer frame first next)
  answer_says w m frame first shape k next slot owes makes low high came inside goes =
      let i : ℕ = slot_in frame in
      let says : Asked → Program = λ asked. Say asked.operation (ending_of (call_id (slot_in frame) first) frame) next in (
        (first, shape, slot),
        λ asked v m1 l s mv. let born = mv.1 first shape slot in let b : Birth = record { id = call_id (slot_in frame) first; asked = asked } in (
          tt,
          subst (λ x. Tells v x (Rattle.seat_programs.specs.PostPrograms.end_id (slot_in frame) (says asked))) (sym mv.0)
              (end_says p q clients gives v (with_slot (taken_out asked m.slot) m) (slot_in frame) first shape asked (says asked) (ap (taken_out asked) slot) born.0 owes
              (λ v2 m2 t vacant l2 said is _. inr (
                b,
                ap (λ (x : Mark). x.owes) is,
                refl,
                l2.born (call_id (slot_in frame) first) asked born.0,
                by_frame v2 k came.0 (call_id (slot_in frame) first) asked frame inside (l2.came k came.0 frame (l.came k came.0 frame came.1))
                    (some_response frame.meta.response came.2, omega (arith, low), (let same = born.1 in omega (arith, high, same))) frame.meta.compress_type refl frame.meta.response refl,
                goes v2 (with_owed [] m2) (far p q clients gives w v v2 l l2) said.1 (record { slot = t; vacant = vacant; is = ap (with_owed []) is ∙ ap (λ bs. with_owed bs (with_slot t m)) (sym owes) }),
              ))),
        ),
      )

  -- ## The responses of a piece

  abbrev Kept : Scene → Mark → ℕ → (List Frame → Program) → Type 0
  Kept w m link k = (kept : List Frame) (v : Scene) (m' : Mark) → Later' w v → SaidBy v (k kept) → Again p q clients gives m m' → AreKept v link kept → Tells v m' (k kept)

  abbrev AllCame : Scene → ℕ → List Frame → Type 0
  AllCame w link fs = AllByRecursion (λ f. (n : ℕ) × Came w link n f) fs

  kept_more : (w : Scene) (link : ℕ) (kept : List Frame) (f : Frame) → AreKept w link kept → CameFrom p q clients gives w link f → AreKept w link (kept ++ f ∷ [])
  kept_more w link [] f all one = (one, tt)
  kept_more w link (g ∷ kept) f all one = (all.0, kept_more w link kept f all.1 one)

  kept_by : (w : Scene) (link : ℕ) (kept : List Frame) (f : Frame) (b : Bool) → AreKept w link kept → CameFrom p q clients gives w link f → AreKept w link (cond b (kept ++ f ∷ []) kept)
  kept_by w link kept f true all one = kept_more w link kept f all one
  kept_by w link kept f false all one = all

  kept_again : (w : Scene) (m m' : Mark) (link : ℕ) (k : List Frame → Program) → Again p q clients gives m m' → Kept w m link k → Kept w m' link k
  kept_again w m m' link k a goes = λ kept v m'' l s b all. goes kept v m'' l s (again_on p q clients gives m m' m'' a b) all

  one_on : (w v : Scene) (link : ℕ) (f : Frame) → Later' w v → CameFrom p q clients gives w link f → CameFrom p q clients gives v link f
  one_on w v link f l one = (one.0, l.came link one.0 f one.1, one.2)

  came_on : (w v : Scene) (link : ℕ) (fs : List Frame) → Later' w v → AllCame w link fs → AllCame v link fs
  came_on w v link [] l all = tt
  came_on w v link (f ∷ fs) l all = ((all.0.0, l.came link all.0.0 f all.0.1), came_on w v link fs l all.1)

  -- what follows the frames, from a mark with another vacant slot, and later
  abbrev More : Scene → Mark → ℕ → ℕ → List Frame → (List Frame → Program) → Type 0
  More w m ids link fs k = (kept : List Frame) (m' : Mark) → IsFree m' → Again p q clients gives m m' → (v : Scene) → Later' w v → AllCame v link fs → AreKept v link kept → SaidBy v (responses ids fs kept k) → Tells v m' (responses ids fs kept k)

  answered_says : (w : Scene) (m : Mark) (ids link : ℕ) (f : Frame) (fs kept : List Frame) (k : List Frame → Program) → IsFree m → link < p.links → More w m ids link fs k → (v : Scene) → Later' w v → CameFrom p q clients gives v link f → AllCame v link fs → AreKept v link kept
      → (exit : Locking) (v2 : Scene) (m2 : Mark) → Later' v v2 → SaidBy v2 (answered f kept (λ kept'. responses ids fs kept' k) exit) → LeavesLock p q clients gives m (slot_in f) (Version (version_in f)) exit m2 → Tells v2 m2 (answered f kept (λ kept'. responses ids fs kept' k) exit)
  answered_says w m ids link f fs kept k free inside more v l one came all (NotThere found) v2 m2 l2 s lv = subst (λ x. Tells v2 x (responses ids fs (cond (is_early (version_in f) (parts found)) (kept ++ f ∷ []) kept) k)) (sym lv)
      (more (cond (is_early (version_in f) (parts found)) (kept ++ f ∷ []) kept) m free (again_same p q clients gives m m free refl) v2 (far p q clients gives w v v2 l l2) (came_on v v2 link fs l2 came)
      (kept_by v2 link kept f (is_early (version_in f) (parts found)) (kept_on p q clients gives v v2 l2 link kept all) (one_on v v2 link f l2 one)) s)
  answered_says w m ids link f fs kept k free inside more v l one came all (Has word) v2 m2 l2 s lv = subst (λ x. Tells v2 x (answer f (parts word).first (responses ids fs kept k))) (sym lv.2)
      (answer_says v2 (with_slot (Locked (slot_in f) lv.0 lv.1) m) f (parts word).first lv.1 link (responses ids fs kept k) (ap (λ n. Locked (slot_in f) n lv.1) (sym lv.3)) free.1 free.2
      (subst (λ n. n < version_in f) (sym lv.3) lv.4.0) (subst (λ n. version_in f < n + lv.1.range) (sym lv.3) lv.4.1) (one_on v v2 link f l2 one) inside
      (λ v3 m3 l3 s3 a. let f3 = far p q clients gives v v2 v3 l2 l3 in
      more kept m3 (subst IsFree (sym a.is) (a.vacant, free.1, free.2)) (record { slot = a.slot; vacant = a.vacant; is = a.is }) v3 (far p q clients gives w v v3 l f3) (came_on v v3 link fs f3 came) (kept_on p q clients gives v v3 f3 link kept all) s3))

  responses_at : (w : Scene) (ids link : ℕ) (k : List Frame → Program) → link < p.links → (fs kept : List Frame) (m : Mark) → IsFree m → Kept w m link k → (v : Scene) → Later' w v → AllCame v link fs → AreKept v link kept → SaidBy v (responses ids fs kept k) → Tells v m (responses ids fs kept k)
  responses_at w ids link k inside [] kept m free goes v l came all s = goes kept v m l s (again_same p q clients gives m m free refl) all
  responses_at w ids link k inside (f ∷ fs) kept m free goes v l came all s = way p q clients gives v m (has_response f.meta.response && nat_lt (slot_in f) ids)
      (Round (Locks (slot_in f) (Version (version_in f)) None) (answered f kept (λ kept'. responses ids fs kept' k))) (responses ids fs kept k) s
      (λ here _. (
        (free, tt),
        λ exit v2 m2 l2 s2 lv. (
          tt,
          answered_says w m ids link f fs kept k free inside (λ kept' m' free' a u l' came' all' s'. responses_at w ids link k inside fs kept' m' free' (kept_again w m m' link k a goes) u l' came' all' s')
              v l (came.0.0, came.0.1, and_left (has_response f.meta.response) (nat_lt (slot_in f) ids) here) came.1 all exit v2 m2 l2 s2 lv,
        ),
      ))
      (λ _ s'. responses_at w ids link k inside fs kept m free goes v l came.1 all s')

  -- ## Reading

  abbrev Ended' : Scene → Mark → Reading → (Ended → Program) → Type 0
  Ended' w m r k = (exit : Ended) (v : Scene) (m' : Mark) → Later' w v → SaidBy v (k exit) → Leaves' p q clients gives v m (Reads r) exit m' → Tells v m' (k exit)

  all_at : (P : Frame → Type 0) (fs : List Frame) → ((n : ℕ) (f : Frame) → slice_get fs n ≡ Some f → P f) → AllByRecursion P fs
  all_at P [] all = tt
  all_at P (f ∷ fs) all = (all 0 f refl, all_at P fs (λ n g there. all (suc n) g there))

  -- behind the frames of the bytes, where the mark has all bytes so far
  goes_on : (bytes rest more : List ℕ) (r : ℕ) → GoesFrom bytes rest → (streams.stream (rest ++ more)).ending ≡ streams.Rest r → GoesFrom (bytes ++ more) (last_of r (rest ++ more))
  goes_on bytes rest more r goes is = (
    goes.0 + length (streams.stream (rest ++ more)).frames,
    λ ys n f there. let x = frames_follow (suc (length (rest ++ more))) 0 (rest ++ more) ys r (omega arith) is n f there in
        let y = goes.1 (more ++ ys) (length (streams.stream (rest ++ more)).frames + n) f (subst (λ l. slice_get (streams.stream l).frames (length (streams.stream (rest ++ more)).frames + n) ≡ Some f) (append_assoc rest more ys) x) in
        subst (λ j. slice_get (streams.stream ((bytes ++ more) ++ ys)).frames j ≡ Some f) (let z : goes.0 + (length (streams.stream (rest ++ more)).frames + n) ≡ goes.0 + length (streams.stream (rest ++ more)).frames + n = omega arith in z)
        (subst (λ l. slice_get (streams.stream l).frames (goes.0 + (length (streams.stream (rest ++ more)).frames + n)) ≡ Some f) (sym (append_assoc bytes more ys)) y),
    λ ys x. subst HasFault (sym (append_assoc bytes more ys)) (goes.2 (more ++ ys) (subst HasFault (append_assoc rest more ys) (faults_follow (rest ++ more) ys r is x))),
  )

  -- what ends a reading leaves the mark as it was, but for the bytes
  module _ (w : Scene) (m : Mark) (r : Reading) (k : Ended → Program) (free : IsFree m) (at : IsReading p q clients gives w m r) (goes : Ended' w m r k) where
    ends : (code : ℕ) → (code ≡ 1014) ⊎ ((code ≡ 2002) × HasFaulted p q clients gives) → (closed fault : Bool) (v : Scene) (m1 : Mark) → Later' w v → m1 ≡ m → SaidBy v (k (ended_by code closed fault r)) → Tells v m1 (k (ended_by code closed fault r))
    ends code is closed fault v m1 l same s = goes (ended_by code closed fault r) v m1 l s (m.slot, m.bytes, free.0, same, refl, refl, kept_on p q clients gives w v l r.link r.kept at.kept, is, at.inside)

    module _ (bytes : List ℕ) where
      abbrev all_bytes : List ℕ
      all_bytes = r.rest ++ bytes

      abbrev longer : Mark
      longer = with_bytes (m.bytes ++ bytes) m

      abbrev now : List Frame → Reading
      now kept = record { ids = r.ids; link = r.link; id = r.id; rest = r.rest; total = r.total + length bytes; kept = kept }

      read_on_says : (HasFault (m.bytes ++ bytes) → HasFaulted p q clients gives) → (e : streams.Ending) → (streams.stream (r.rest ++ bytes)).ending ≡ e → Kept w (with_bytes (m.bytes ++ bytes) m) r.link (λ kept. read_on (record { ids = r.ids; link = r.link; id = r.id; rest = r.rest; total = r.total + length bytes; kept = kept }) (r.rest ++ bytes) e k)
      read_on_says faulted (streams.Rest n) is kept v m2 l s a all = let r' : Reading = record { ids = r.ids; link = r.link; id = r.id; rest = last_of n (r.rest ++ bytes); total = r.total + length bytes; kept = kept } in
          way p q clients gives v m2 (nat_lt (r.total + length bytes) LIMIT) (Round (Reads r') k) (k (ended_by 1014 false false r')) s
          (λ _ _. (
            (subst IsFree (sym a.is) (a.vacant, free.1, free.2), record { inside = at.inside; link = ap (λ (x : Mark). x.link) a.is ∙ at.link; goes = subst (λ (x : Mark). GoesFrom x.bytes (last_of n (r.rest ++ bytes))) (sym a.is) (goes_on m.bytes r.rest bytes n at.goes is); kept = all }),
            λ exit v2 m3 l2 s2 lv. (tt, goes exit v2 m3 (far p q clients gives w v v2 l l2) s2 (lv.0, lv.1, lv.2, lv.3 ∙ ap (λ x. with_bytes lv.1 (with_slot lv.0 x)) a.is, lv.4, lv.5, lv.6, lv.7, lv.8)),
          ))
          (λ _ s'. goes (ended_by 1014 false false r') v m2 l s' (a.slot, m.bytes ++ bytes, a.vacant, a.is, refl, refl, all, inl refl, at.inside))
      read_on_says faulted (streams.Fault start fault) is kept v m2 l s a all = goes (ended_by 2002 false true (record { ids = r.ids; link = r.link; id = r.id; rest = r.rest; total = r.total + length bytes; kept = kept })) v m2 l s
          (a.slot, m.bytes ++ bytes, a.vacant, a.is, refl, refl, all, inr (refl, faulted (at.goes.2 bytes (start, fault, is))), at.inside)

      -- the frames of the piece came
      frames_came : (v : Scene) → gave_in v.core r.link ≡ m.bytes ++ bytes → AllCame v r.link (streams.stream (r.rest ++ bytes)).frames
      frames_came v is = all_at (λ f. (n : ℕ) × Came v r.link n f) (streams.stream (r.rest ++ bytes)).frames (λ n f there. (
        at.goes.0 + n,
        subst (λ l. slice_get (streams.stream l).frames (at.goes.0 + n) ≡ Some f) (sym is) (at.goes.1 bytes n f there),
      ))

    took_says : (t : Taking) (v : Scene) (m1 : Mark) → Later' w v → SaidBy v (took r k t) → m1 ≡ Rattle.call_stories.specs.Says.given_more t m → gave_in v.core r.link ≡ (Rattle.call_stories.specs.Says.given_more t m).bytes → Tells v m1 (took r k t)
    took_says (Bytes bytes) v m1 l s same is = subst (λ x. Tells v x (took_bytes r bytes k)) (sym same)
        (responses_at w r.ids r.link (λ kept. read_on (record { ids = r.ids; link = r.link; id = r.id; rest = r.rest; total = r.total + length bytes; kept = kept }) (r.rest ++ bytes) (streams.stream (r.rest ++ bytes)).ending k) at.inside (streams.stream (r.rest ++ bytes)).frames r.kept
        (with_bytes (m.bytes ++ bytes) m) free (read_on_says bytes (λ x. let lead = l.within.1 r.link in (r.link, at.inside, subst HasFault (ap (λ xs. xs ++ lead.0) (sym is) ∙ lead.1) (faults_more (m.bytes ++ bytes) lead.0 x))) (streams.stream (r.rest ++ bytes)).ending refl) v l (frames_came bytes v is) (kept_on p q clients gives w v l r.link r.kept at.kept) s)
    took_says Nothing v m1 l s same is = subst (λ x. Tells v x (Round (Reads r) k)) (sym same)
        ((free, record { inside = at.inside; link = at.link; goes = at.goes; kept = kept_on p q clients gives w v l r.link r.kept at.kept }), λ exit v2 m2 l2 s2 lv. (tt, goes exit v2 m2 (far p q clients gives w v v2 l l2) s2 lv))
    took_says Closed v m1 l s same is = ends 1014 (inl refl) true false v m1 l same s
    took_says _ v m1 l s same is = ends 1014 (inl refl) false false v m1 l same s

    pub reads_says : Tells w m (reads_round r k)
    reads_says = (at.link, λ t v m1 l s mv. (tt, took_says t v m1 l s mv.0 (mv.1 at.link)))

  -- ## Behind a fault

  abbrev Over : Scene → Mark → (ℕ → Program) → Type 0
  Over w m k = (exit : ℕ) (v : Scene) (m' : Mark) → Later' w v → SaidBy v (k exit) → (bytes : List ℕ) → m' ≡ with_bytes bytes m → Tells v m' (k exit)

  module _ (w : Scene) (m : Mark) (link total : ℕ) (k : ℕ → Program) (free : IsFree m) (own : m.link ≡ link ∷ []) (goes : Over w m k) where
    again_says : (n : ℕ) (bytes : List ℕ) (v : Scene) (m1 : Mark) → Later' w v → m1 ≡ with_bytes bytes m → Tells v m1 (Round (Discards link n) k)
    again_says n bytes v m1 l same = subst (λ x. Tells v x (Round (Discards link n) k)) (sym same) ((free, own), λ exit v2 m2 l2 s2 lv. (tt, goes exit v2 m2 (far p q clients gives w v v2 l l2) s2 lv.0 lv.1))

    discarded_says : (t : Taking) (v : Scene) (m1 : Mark) → Later' w v → SaidBy v (discarded link total k t) → m1 ≡ Rattle.call_stories.specs.Says.given_more t m → Tells v m1 (discarded link total k t)
    discarded_says (Bytes bytes) v m1 l s same = way p q clients gives v m1 (nat_lt (total + length bytes) LIMIT) (Round (Discards link (total + length bytes)) k) (k (total + length bytes)) s
        (λ _ _. again_says (total + length bytes) (m.bytes ++ bytes) v m1 l same) (λ _ s'. goes (total + length bytes) v m1 l s' (m.bytes ++ bytes) same)
    discarded_says Nothing v m1 l s same = again_says total m.bytes v m1 l same
    discarded_says _ v m1 l s same = goes total v m1 l s m.bytes same

    pub discards_says : Tells w m (discards_round link total k)
    discards_says = (own, λ t v m1 l s mv. (tt, discarded_says t v m1 l s mv.0))

  pub opens_says : (w : Scene) (m : Mark) (o : ℕ) (k : ℕ → Program) → IsFree m → ((exit : ℕ) → Next w m (k exit)) → Tells w m (opens_round o k)
  opens_says w m o k free goes = (
    tt,
    λ word v l s _. way p q clients gives v m (eqb word 0) (Round (Opens o) k) (k word) s (λ _ _. (free, λ exit v2 m2 l2 s2 lv. (tt, subst (λ x. Tells v2 x (k exit)) (sym lv) (goes exit v2 (far p q clients gives w v v2 l l2) s2)))) (λ _ s'. goes word v l s'),
  )

  -- ## The end of a reading

  module _ (link code : ℕ) (inside : link < p.links) (other : IsOther p q clients gives code) where
    -- the call in hand ends with the first of the kept responses of its versions, or it is decided on
    kept_ends : (w : Scene) (m : Mark) (id e word : ℕ) (shape : Shape) (next : Program) → m.slot ≡ Locked (id_slot id) (id_first id) shape → m.owes ≡ [] → m.makes ≡ [] → HasShape word shape → is_stale e (parts word) ≡ false → IsOther p q clients gives (code_of e) → attempt_of e ≢ 7 → WasPosted w id e → Ends w m next
        → (kept : List Frame) → AreKept w link kept → Tells w m (ends_with id e word (kept_for id (parts word).range kept) next)
    kept_ends w m id e word shape next slot owes makes same fresh coded light there goes [] all = decide_says p q clients gives w m id word e (decided id next) shape slot same owes makes fresh (λ _. there)
        (decided_says p q clients gives w m id e next owes (λ u b l' _ born is last. failed_of p q clients gives u b id e (l'.apart id) is born (of_other coded light (l'.posted (record { id = id; error = e }) there)) last) goes)
    kept_ends w m id e word shape next slot owes makes same fresh coded light there goes (f ∷ fs) all =
        by_test (eqb (slot_in f) (id_slot id)) (nat_lt id f.meta.correlation_id && nat_lt f.meta.correlation_id (id + (parts word).range)) refl refl (kept_ends w m id e word shape next slot owes makes same fresh coded light there goes fs all.1)
      where
        answers : slot_in f ≡ id_slot id → (nat_lt id f.meta.correlation_id && nat_lt f.meta.correlation_id (id + (parts word).range)) ≡ true → Tells w m (answer f (id_first id) next)
        answers here is =
            let low = ltb-true id f.meta.correlation_id (and_left (nat_lt id f.meta.correlation_id) (nat_lt f.meta.correlation_id (id + (parts word).range)) is) in
            let high = ltb-true f.meta.correlation_id (id + (parts word).range) (and_right (nat_lt id f.meta.correlation_id) (nat_lt f.meta.correlation_id (id + (parts word).range)) is) in
            answer_says w m f (id_first id) shape link next (slot ∙ ap (λ i. Locked i (id_first id) shape) (sym here)) owes makes (omega (arith, low, here)) (let range = same.0 in omega (arith, high, here, range)) all.0 inside goes

        by_test : (b s : Bool) → eqb (slot_in f) (id_slot id) ≡ b → (nat_lt id f.meta.correlation_id && nat_lt f.meta.correlation_id (id + (parts word).range)) ≡ s → Tells w m (ends_with id e word (kept_for id (parts word).range fs) next)
            → Tells w m (ends_with id e word (cond (b && s) (f ∷ kept_for id (parts word).range fs) (kept_for id (parts word).range fs)) next)
        by_test true true here is later = answers (eqb-true (slot_in f) (id_slot id) here) is
        by_test true false here is later = later
        by_test false s here is later = later

    posted_exits : (w : Scene) (m : Mark) (id e : ℕ) (kept : List Frame) (next : Program) → IsFree m → IsOther p q clients gives (code_of e) → attempt_of e ≢ 7 → AreKept w link kept → Ends w m next → Exits p q clients gives w m id e (posted_last id e kept next)
    posted_exits w m id e kept next free coded light all goes (HasLocked word) v m' l s lv = (
      tt,
      subst (λ x. Tells v x (ends_with id e word (kept_for id (parts word).range kept) next)) (sym lv.1)
          (kept_ends v (with_slot (Locked (id_slot id) (id_first id) lv.0) m) id e word lv.0 next refl free.1 free.2 lv.2 lv.3 coded light lv.4 (follows_on p q clients gives w v m (Locked (id_slot id) (id_first id) lv.0) next l goes) kept (kept_on p q clients gives w v l link kept all)),
    )
    posted_exits w m id e kept next free coded light all goes WasGone v m' l s lv = (tt, goes v m' l s lv)
    posted_exits w m id e kept next free coded light all goes WasStale v m' l s lv = (tt, goes v m' l s lv)
    posted_exits w m id e kept next free coded light all goes (WasCrowded a b) v m' l s lv = (tt, goes v m' l s lv.0)
    posted_exits w m id e kept next free coded light all goes WasQueued v m' l s lv = (of_other coded light lv.1, goes v m' l s lv.0)

    ends_again : (w : Scene) (m m' : Mark) (next : Program) → Again p q clients gives m m' → Ends w m next → Ends w m' next
    ends_again w m m' next a goes = λ v m'' l s b. goes v m'' l s (again_on p q clients gives m m' m'' a b)

    coded : (x : ℕ) → IsOther p q clients gives (code_of (error_of code (at_word_attempt x)))
    coded x = subst (IsOther p q clients gives) (let z : code ≡ code_of (code * 8 + at_word_attempt x) = omega arith in z) other

    -- it is for one attempt
    of_one : (x : ℕ) → at_word_attempt x ≤ 6 → attempt_of (error_of code (at_word_attempt x)) ≢ 7
    of_one x few e = omega (arith, few, e)

    post_each_at : (w : Scene) (kept : List Frame) (next : Program) (os : List ℕ) (m : Mark) → IsFree m → Ends w m next → (v : Scene) → Later' w v → AreKept v link kept → SaidBy v (post_each os link code kept next) → Tells v m (post_each os link code kept next)
    post_each_at w kept next [] m free goes v l all s = goes v m l s (again_same p q clients gives m m free refl)
    post_each_at w kept next (o ∷ os) m free goes v l all s = (
      tt,
      λ x v2 m2 l2 s2 mv. let rest : Program = post_each os link code kept next in let f2 = far p q clients gives w v v2 l l2 in let all2 = kept_on p q clients gives v v2 l2 link kept all in
          let id : ℕ = call_id (at_word_slot x) (at_word_first x) in let e : ℕ = error_of code (at_word_attempt x) in (
            tt,
            subst (λ y. Tells v2 y (cond (eqb x 0) rest (cond (eqb (at_word_link x) link) (post_with (call_id (at_word_slot x) (at_word_first x)) (error_of code (at_word_attempt x)) (posted_last (call_id (at_word_slot x) (at_word_first x)) (error_of code (at_word_attempt x)) kept rest)) rest))) (sym mv.0)
                (way p q clients gives v2 m (eqb x 0) rest (cond (eqb (at_word_link x) link) (post_with (call_id (at_word_slot x) (at_word_first x)) (error_of code (at_word_attempt x)) (posted_last (call_id (at_word_slot x) (at_word_first x)) (error_of code (at_word_attempt x)) kept rest)) rest) s2
                (λ _ s'. post_each_at w kept next os m free goes v2 f2 all2 s')
                (λ _ s'. way p q clients gives v2 m (eqb (at_word_link x) link) (post_with (call_id (at_word_slot x) (at_word_first x)) (error_of code (at_word_attempt x)) (posted_last (call_id (at_word_slot x) (at_word_first x)) (error_of code (at_word_attempt x)) kept rest)) rest s'
                (λ _ _. post_with_says p q clients gives v2 m id e (posted_last id e kept rest) free
                (posted_exits v2 m id e kept rest free (coded x) (of_one x mv.1) all2
                (λ u m' l3 s3 a. post_each_at w kept next os m' (subst IsFree (sym a.is) (a.vacant, free.1, free.2)) (ends_again w m m' next a goes) u (far p q clients gives w v2 u f2 l3) (kept_on p q clients gives v2 u l3 link kept all2) s3)))
                (λ _ s''. post_each_at w kept next os m free goes v2 f2 all2 s''))),
          ),
    )

  -- nothing is said behind a reading
  over_ends : (w : Scene) (m : Mark) (how : Ended) → IsFree m → m.todo ≡ [] → m.link ≡ how.reading.link ∷ [] → Ends w m (thrown_away how)
  over_ends w m how free none_ own v m' l s a = subst (λ x. Tells v x (thrown_away how)) (sym a.is) (plain_way p q clients gives v (with_slot a.slot m) (how.fault && nat_lt how.reading.total LIMIT) (Round (Discards how.reading.link how.reading.total) (λ _. Rest)) Rest
      (λ _. (((a.vacant, free.1, free.2), own), λ exit v2 m2 l2 s2 lv. (tt, subst (λ x. Tells v2 x Rest) (sym lv.1) ((a.vacant, free.1, free.2), none_)))) (λ _. ((a.vacant, free.1, free.2), none_)))

  other_code : (c : ℕ) → (c ≡ 1014) ⊎ ((c ≡ 2002) × HasFaulted p q clients gives) → IsOther p q clients gives c
  other_code c (inl is) = inr (inl is)
  other_code c (inr is) = inr (inr (inl is))

  -- how a reading ended, and what the seat has then
  pub record IsOver (w : Scene) (m : Mark) (how : Ended) : Type 0 where
    pub free : IsFree m
    pub none_ : m.todo ≡ []
    pub own : m.link ≡ how.reading.link ∷ []
    pub inside : how.reading.link < p.links
    pub code : (how.code ≡ 1014) ⊎ ((how.code ≡ 2002) × HasFaulted p q clients gives)
    pub kept : AreKept w how.reading.link how.reading.kept

  read_says : (calls : List ℕ) (how : Ended) (w : Scene) (m : Mark) (v : Scene) → Later' w v → IsOver v m how → SaidBy v (read calls how) → Tells v m (read calls how)
  read_says calls how w m v l o s =
      let last : Program = post_each calls how.reading.link how.code how.reading.kept (thrown_away how) in
      let other = other_code how.code o.code in
      let posts : (u : Scene) → Later' w u → AreKept u how.reading.link how.reading.kept → SaidBy u last → Tells u m last = λ u l' all s'. post_each_at how.reading.link how.code o.inside other w how.reading.kept (thrown_away how) calls m o.free (over_ends w m how o.free o.none_ o.own) u l' all s' in
      let later : (u : Scene) → Later' v u → SaidBy u last → Tells u m last = λ u l' s'. posts u (far p q clients gives w v u l l') (kept_on p q clients gives v u l' how.reading.link how.reading.kept o.kept) s' in
      way p q clients gives v m how.closed last (add_reference how.reading.id (set_failed how.reading.id how.code (λ _. release (socket_id_slot how.reading.id) (λ _. last))) (λ _. last)) s
      (λ _ s'. posts v l o.kept s')
      (λ _ _. address_says p q clients gives v m how.reading.id (set_failed how.reading.id how.code (λ _. release (socket_id_slot how.reading.id) (λ _. last))) (λ _. last)
      (λ v2 l2 _. set_failed_says p q clients gives v2 m how.reading.id how.code other (λ _. release (socket_id_slot how.reading.id) (λ _. last))
      (λ _ v3 l3 _. release_says p q clients gives v3 m (socket_id_slot how.reading.id) (λ _. last) (λ _ v4 l4 s4. later v4 (far p q clients gives v v3 v4 (far p q clients gives v v2 v3 l2 l3) l4) s4)))
      (λ _ v2 l2 s2. later v2 l2 s2))

  -- the reader of link k, which gave nothing yet
  pub reader_says : (calls : List ℕ) (k o : ℕ) (w : Scene) (m : Mark) → IsFree m → m.todo ≡ [] → m.link ≡ k ∷ [] → m.bytes ≡ [] → k < p.links → Tells w m (reader calls k o)
  reader_says calls k o w m free none_ own empty inside = (
    free,
    λ word v m' l s lv. let r : Reading = record { ids = length calls; link = k; id = word - 1; rest = []; total = 0; kept = [] } in (
      tt,
      subst (λ x. Tells v x (cond (eqb word NO_SOCKET) Rest (Round (Reads r) (read calls)))) (sym lv) (plain_way p q clients gives v m (eqb word NO_SOCKET) Rest (Round (Reads r) (read calls)) (λ _. (free, none_))
          (λ _. (
            (free, record { inside = inside; link = own; goes = (0, λ more n f there. subst (λ j. slice_get (streams.stream (m.bytes ++ more)).frames j ≡ Some f) (let z : n ≡ 0 + n = omega arith in z) (subst (λ l. slice_get (streams.stream (l ++ more)).frames n ≡ Some f) (sym empty) there), λ more x. subst (λ l. HasFault (l ++ more)) (sym empty) x); kept = tt }),
            λ how v2 m2 l2 s2 lv2. (
              tt,
              read_says calls how v m2 v2 l2 (record {
                free = subst IsFree (sym lv2.3) (lv2.2, free.1, free.2);
                none_ = ap (λ (x : Mark). x.todo) lv2.3 ∙ none_;
                own = ap (λ (x : Mark). x.link) lv2.3 ∙ (own ∙ ap (λ n. n ∷ []) (sym lv2.4));
                inside = subst (λ n. n < p.links) (sym lv2.4) inside;
                code = lv2.7;
                kept = subst (λ n. AreKept v2 n how.reading.kept) (sym lv2.4) lv2.6;
              }) s2,
            ),
          ))),
    ),
  )
