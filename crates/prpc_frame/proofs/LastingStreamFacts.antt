-- What was told of some bytes stays true with more bytes behind them, and so what is told of a stream.
use Rattle.std.proofs.Common.{◌≡◌, ℕ, ◌+◌, ◌-◌, ◌<◌, ◌≤◌, Bool, true, false, List, ◌++◌, length, take, drop, Option, Some, None, Result, Ok, Err, refl, ap, sym, ◌∙◌, subst, inl, inr, arith, append_assoc, length-append, length-drop}
use Rattle.std.specs.Prelude.{nat_lt, option_map}
use Rattle.std.proofs.lemmas.Bool.{ltb-true, ltb-false}
use Rattle.std.proofs.lemmas.List.{drop-append-le}
use Rattle.rpc_meta.specs.brpc_model.specs.Meta.{read_meta}
use Rattle.rpc_meta.specs.brpc_model.specs.Frame as model
use Rattle.rpc_meta.specs.brpc_model.specs.Frame.{Judged, NoneYet, Faulty, Begins, BadMagic, TooBig, MetaOver, judged, body_judged, high_first, body_limit}
use Rattle.rpc_meta.specs.brpc_model.specs.FrameStream.{Stream, Rest, Fault, goes_on, with_frame, stream_from}
use Rattle.rpc_meta.specs.brpc_model.proofs.StreamBehindFirstFrame.{stream_goes_on}
use Rattle.prpc_frame.specs.Header.{magic_wrong, body_size, meta_size, inside_of}
use Rattle.prpc_frame.specs.FrameMeaning.{frame_of, fault_of}
use Rattle.prpc_frame.specs.CutterAnswers.{Cuts, Answers, IsFaulty, Fed}
use Rattle.prpc_frame.specs.CutterAnswerLeads.{ends, Leads}
use Rattle.prpc_frame.specs.declared.frame.Frame.{Frame}
use Rattle.prpc_frame.specs.declared.fault.NextFault.{NextFault}
use Rattle.prpc_frame.specs.declared.fault.NextFault.TheVariants as next
use Rattle.prpc_frame.proofs.Judging.{told_wrong, told_short, told_big, told_over, told_lacking, told_whole, still_wrong, still_right, same_match, same_word, same_inside}

abbrev by_body : ℕ → ℕ → List ℕ → Judged
by_body meta body inside = body_judged (read_meta (take meta inside)) (drop meta inside) body

same_body : (m k b c : ℕ) (i j : List ℕ) → m ≡ k → b ≡ c → i ≡ j → by_body m b i ≡ by_body k c j
same_body m k b c i j p q r = ap (λ (x : ℕ). by_body x b i) p ∙ ap (λ (x : ℕ). by_body k x i) q ∙ ap (λ (x : List ℕ). by_body k c x) r

stays_sized : (bytes more : List ℕ) → (judged bytes ≡ NoneYet → ⊥) → magic_wrong bytes ≡ false → 12 ≤ length bytes → body_size bytes ≤ body_limit → meta_size bytes ≤ body_size bytes →
    (b : Bool) → nat_lt (length bytes) (12 + body_size bytes) ≡ b → judged (bytes ++ more) ≡ judged bytes
stays_sized bytes more some w s small fits true t = absurd (some (told_lacking bytes w s small fits (ltb-true _ _ t)))
stays_sized bytes more some w s small fits false t =
    let there : 12 + body_size bytes ≤ length bytes = ltb-false (length bytes) (12 + body_size bytes) t in
    let size = length-append bytes more in
    let b : body_size (bytes ++ more) ≡ body_size bytes = ap (λ (l : List ℕ). high_first l) (same_word 4 bytes more (omega arith)) in
    let m : meta_size (bytes ++ more) ≡ meta_size bytes = ap (λ (l : List ℕ). high_first l) (same_word 8 bytes more (omega arith)) in
    told_whole (bytes ++ more) (still_right bytes more w s) (omega (arith, size)) (omega (arith, b)) (omega (arith, b, m)) (omega (arith, b, size))
    ∙ same_body (meta_size (bytes ++ more)) (meta_size bytes) (body_size (bytes ++ more)) (body_size bytes) (inside_of (body_size (bytes ++ more)) (bytes ++ more)) (inside_of (body_size bytes) bytes)
    m b (ap (λ (n : ℕ). inside_of n (bytes ++ more)) b ∙ same_inside (body_size bytes) bytes more there)
    ∙ sym (told_whole bytes w s small fits there)

stays_fits : (bytes more : List ℕ) → (judged bytes ≡ NoneYet → ⊥) → magic_wrong bytes ≡ false → 12 ≤ length bytes → body_size bytes ≤ body_limit →
    (b : Bool) → nat_lt (body_size bytes) (meta_size bytes) ≡ b → judged (bytes ++ more) ≡ judged bytes
stays_fits bytes more some w s small true t =
    let over : body_size bytes < meta_size bytes = ltb-true (body_size bytes) (meta_size bytes) t in
    let size = length-append bytes more in
    let b : body_size (bytes ++ more) ≡ body_size bytes = ap (λ (l : List ℕ). high_first l) (same_word 4 bytes more (omega arith)) in
    let m : meta_size (bytes ++ more) ≡ meta_size bytes = ap (λ (l : List ℕ). high_first l) (same_word 8 bytes more (omega arith)) in
    told_over (bytes ++ more) (still_right bytes more w s) (omega (arith, size)) (omega (arith, b)) (omega (arith, b, m))
    ∙ ap (λ (n : ℕ). Faulty (MetaOver n (body_size (bytes ++ more)))) m ∙ ap (λ (n : ℕ). Faulty (MetaOver (meta_size bytes) n)) b
    ∙ sym (told_over bytes w s small over)
stays_fits bytes more some w s small false t =
    stays_sized bytes more some w s small (ltb-false (body_size bytes) (meta_size bytes) t) (nat_lt (length bytes) (12 + body_size bytes)) refl

stays_small : (bytes more : List ℕ) → (judged bytes ≡ NoneYet → ⊥) → magic_wrong bytes ≡ false → 12 ≤ length bytes →
    (b : Bool) → nat_lt body_limit (body_size bytes) ≡ b → judged (bytes ++ more) ≡ judged bytes
stays_small bytes more some w s true t =
    let big : body_limit < body_size bytes = ltb-true body_limit (body_size bytes) t in
    let size = length-append bytes more in
    let b : body_size (bytes ++ more) ≡ body_size bytes = ap (λ (l : List ℕ). high_first l) (same_word 4 bytes more (omega arith)) in
    told_big (bytes ++ more) (still_right bytes more w s) (omega (arith, size)) (omega (arith, b))
    ∙ ap (λ (n : ℕ). Faulty (TooBig n)) b ∙ sym (told_big bytes w s big)
stays_small bytes more some w s false t =
    stays_fits bytes more some w s (ltb-false body_limit (body_size bytes) t) (nat_lt (body_size bytes) (meta_size bytes)) refl

stays_right : (bytes more : List ℕ) → (judged bytes ≡ NoneYet → ⊥) → magic_wrong bytes ≡ false →
    (b : Bool) → nat_lt (length bytes) 12 ≡ b → judged (bytes ++ more) ≡ judged bytes
stays_right bytes more some w true t = absurd (some (told_short bytes w (ltb-true (length bytes) 12 t)))
stays_right bytes more some w false t = stays_small bytes more some w (ltb-false (length bytes) 12 t) (nat_lt body_limit (body_size bytes)) refl

stays_by : (bytes more : List ℕ) → (judged bytes ≡ NoneYet → ⊥) → (b : Bool) → magic_wrong bytes ≡ b → judged (bytes ++ more) ≡ judged bytes
stays_by bytes more some true w =
    told_wrong (bytes ++ more) (still_wrong bytes more w) ∙ ap (λ (n : ℕ). Faulty (BadMagic n)) (same_match bytes more w) ∙ sym (told_wrong bytes w)
stays_by bytes more some false w = stays_right bytes more some w (nat_lt (length bytes) 12) refl

-- what is told of some bytes is told of them with more behind
pub stays : (bytes more : List ℕ) → (judged bytes ≡ NoneYet → ⊥) → judged (bytes ++ more) ≡ judged bytes
stays bytes more some = stays_by bytes more some (magic_wrong bytes) refl

-- ## The stream

pub none_yet : (at : ℕ) (bytes : List ℕ) → judged bytes ≡ NoneYet → stream_from at bytes ≡ ends (Rest (length bytes))
none_yet at bytes e = stream_goes_on at bytes ∙ ap (λ (j : Judged). goes_on at bytes j (λ body. stream_from (at + (12 + body)) (drop (12 + body) bytes))) e

pub faulty : (at : ℕ) (bytes more : List ℕ) (f : model.FrameFault) → judged bytes ≡ Faulty f → stream_from at (bytes ++ more) ≡ ends (Fault at f)
faulty at bytes more f e =
    let same = stays bytes more (λ n. let no : NoneYet ≡ Faulty f = sym n ∙ e in cc) in
    stream_goes_on at (bytes ++ more)
    ∙ ap (λ (j : Judged). goes_on at (bytes ++ more) j (λ body. stream_from (at + (12 + body)) (drop (12 + body) (bytes ++ more)))) (same ∙ e)

pub begins : (at : ℕ) (old more new : List ℕ) (f : model.Frame) → Cuts (judged old) old f new →
    stream_from at (old ++ more) ≡ with_frame f (stream_from (at + (length old - length new)) (new ++ more))
begins at old more new f c =
    let same = stays old more (λ n. let no : NoneYet ≡ Begins f c.body = sym n ∙ c.means in cc) in
    let rest : drop (12 + c.body) (old ++ more) ≡ new ++ more = drop-append-le (12 + c.body) old more c.there ∙ ap (λ (l : List ℕ). l ++ more) (sym c.rest) in
    let cut : 12 + c.body ≡ length old - length new = omega (arith, c.there, length-drop (12 + c.body) old, ap length c.rest) in
    stream_goes_on at (old ++ more)
    ∙ ap (λ (j : Judged). goes_on at (old ++ more) j (λ body. stream_from (at + (12 + body)) (drop (12 + body) (old ++ more)))) (same ∙ c.means)
    ∙ ap (λ (l : List ℕ). with_frame f (stream_from (at + (12 + c.body)) l)) rest
    ∙ ap (λ (n : ℕ). with_frame f (stream_from (at + n) (new ++ more))) cut

pub ends_faulty : (at : ℕ) (old more : List ℕ) (o : Option model.FrameFault) → option_map (λ f. Faulty f) o ≡ Some (judged old) →
    option_map (λ f. ends (Fault at f)) o ≡ Some (stream_from at (old ++ more))
ends_faulty at old more None e = absurd (cc)
ends_faulty at old more (Some f) e = let is : Faulty f ≡ judged old = cc in ap (λ (s : Stream). Some s) (sym (faulty at old more f (sym is)))

pub leads : (at : ℕ) (more old new : List ℕ) (r : Result (Option Frame) NextFault) → Answers (judged old) old r new → Leads at more old r new
leads at more old new (Ok None) h = none_yet at old h.0
leads at more old new (Ok (Some f)) h = (omega (arith, h.there, length-drop (12 + h.body) old, ap length h.rest), begins at old more new (frame_of f) h)
leads at more old new (Err (next.Frame fault)) h = ends_faulty at old more (fault_of fault) h.0
leads at more old new (Err next.NoMemory) h = tt

fed_faulty : (at : ℕ) (old piece more : List ℕ) (j : Judged) → judged old ≡ j → IsFaulty j → stream_from at (old ++ more) ≡ stream_from at (old ++ (piece ++ more))
fed_faulty at old piece more (Faulty f) e h = faulty at old more f e ∙ sym (faulty at old (piece ++ more) f e)
fed_faulty at old piece more NoneYet e h = absurd h
fed_faulty at old piece more (Begins f body) e h = absurd h

-- a piece that was fed or thrown away stands behind what was held
pub fed : (at : ℕ) (more old piece new : List ℕ) → Fed old piece new → stream_from at (new ++ more) ≡ stream_from at (old ++ (piece ++ more))
fed at more old piece new (inl e) = ap (λ (l : List ℕ). stream_from at (l ++ more)) e ∙ ap (λ (l : List ℕ). stream_from at l) (append_assoc old piece more)
fed at more old piece new (inr h) = ap (λ (l : List ℕ). stream_from at (l ++ more)) h.1 ∙ fed_faulty at old piece more (judged old) refl h.0

-- ## A fault that is answered

pub is_fault : (o : Option model.FrameFault) (j : Judged) → option_map (λ f. Faulty f) o ≡ Some j → IsFaulty j
is_fault None j e = absurd (cc)
is_fault (Some f) j e = let is : Faulty f ≡ j = cc in let P : Judged → Type 0 = λ k. IsFaulty k in subst P is tt
