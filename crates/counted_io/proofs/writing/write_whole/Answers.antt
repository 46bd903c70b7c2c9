use Rattle.std.proofs.Common.{◌≡◌, ℕ, ◌+◌, ◌-◌, ◌<◌, [], true, false, arith, subst, sym, List, take, drop, length, inl, Option, rules}
use Rattle.std.proofs.KnownBytes.{Appends-trans, Appends-nil}
use Rattle.counted_io.specs.declared.counted.Counted.{Counted}
use Rattle.counted_io.specs.Counted.{calls_of, one_more, HasCalled, HasMade}
use Rattle.counted_io.specs.Chains.{IsCutShort, MadeWrites, IsWrite, TakesSome, Wrote}
use Rattle.counted_io.proofs.Calls.{made_more, made_none}
use Rattle.counted_io.proofs.Chaining.{wrote_nothing, wrote_more, wrote_last, wrote_appends}
use Rattle.counted_io.proofs.Counts.{called_more, not_fallen}
use Rattle.counted_io.proofs.Slices.{more_sent, more_fits, some_taken}
use Rattle.counted_io.proofs.writing.write_whole.Goals as goal

-- a write after some
one_write : (n a b c : ℕ) → HasMade n a b → c ≡ one_more b → (m : ℕ) × HasMade m a c
one_write n a b c made is = (n + 1, subst (HasMade (n + 1) a) (sym is) (made_more n a b made))

-- a write after some, which was the last
last_write : {W : Type 0} (old new : Counted W) (n b : ℕ) → HasMade n (calls_of old) b → calls_of new ≡ one_more b → MadeWrites old new false
last_write old new n b made is =
    record { writes = n + 1; made = subst (HasMade (n + 1) (calls_of old)) (sym is) (made_more n _ b made); some = λ _. omega arith }

-- a write took some bytes more
taken : {W : Type 0} {contents : W → Option (List ℕ)} (old now new : Counted W) (bytes : List ℕ) (a n : ℕ) → Wrote contents old now (take a bytes) true
    → TakesSome contents now (take n (take (length bytes - a) (drop a bytes))) new → Wrote contents old new (take (a + n) bytes) true
taken {contents = contents} old now new bytes a n wrote some =
    subst (λ (t : List ℕ). Wrote contents old new t true) (more_sent bytes a n) (wrote_more contents old now new _ _ wrote some)

pub loop-sent-init : goal.loop-sent-init
loop-sent-init g c = record {
  within = omega arith;
  written = Appends-nil _;
  called = inl (omega arith);
  chain = wrote_nothing _ _;
  writes = (0, made_none _);
}

pub loop-sent-preserved : goal.loop-sent-preserved
loop-sent-preserved g c =
    let more = Appends-trans _ _ _ _ _ c.loop-sent.invariant.written c.in-Ok.ensures.bytes in
    record {
      within = more_fits c.args.bytes.now c.loop-sent.sent c.in-Ok.n c.loop-sent.invariant.within c.in-Ok.ensures.bound;
      written = rw more_sent at more;
      chain = taken c.args.writer.now c.loop-sent.writer c.write.new.self c.args.bytes.now c.loop-sent.sent c.in-Ok.n c.loop-sent.invariant.chain
          (record { appended = c.in-Ok.ensures.bytes; called = c.in-Ok.ensures.calls; how = search rules }, some_taken _ _ (search rules) c.in-Ok.ensures.bound);
      called = not_fallen _ _ (subst (λ (n : ℕ). HasCalled (calls_of c.args.writer.now) n) (sym c.in-Ok.ensures.calls) (called_more (calls_of c.args.writer.now) (calls_of c.loop-sent.writer) c.loop-sent.invariant.called));
      writes = one_write _ _ _ _ c.loop-sent.invariant.writes.1 c.in-Ok.ensures.calls;
    }

pub returns-in-Ok-eq0-clause-writes : goal.returns-in-Ok-eq0-clause-writes
returns-in-Ok-eq0-clause-writes g c = last_write c.args.writer.now c.write.new.self c.loop-sent.invariant.writes.0 _ c.loop-sent.invariant.writes.1 c.write.ensures.calls

pub returns-in-Ok-eq0-2-clause-writes : goal.returns-in-Ok-eq0-2-clause-writes
returns-in-Ok-eq0-2-clause-writes g c = last_write c.args.writer.now c.write.new.self c.loop-sent.invariant.writes.0 _ c.loop-sent.invariant.writes.1 c.write.ensures.calls

-- the message was cut short where one write more failed
cut : {W : Type 0} {contents : W → Option (List ℕ)} {old now new : Counted W} (bytes : List ℕ) (n : ℕ) → n < length bytes
    → Wrote contents old now (take n bytes) true → IsWrite contents true now [] new → IsCutShort contents old new bytes
cut bytes n short before last =
    let wrote = wrote_last _ _ _ _ _ before last in
    record { taken = n; short = short; appended = wrote_appends _ _ _ _ _ wrote; failed = last.how; wrote = wrote }

pub returns-in-Ok-eq0-clause-cut : goal.returns-in-Ok-eq0-clause-cut
returns-in-Ok-eq0-clause-cut g c = λ _.
    cut c.args.bytes.now c.loop-sent.sent c.loop-sent-test.true c.loop-sent.invariant.chain
    (record { appended = search rules; called = c.write.ensures.calls; how = search rules })

pub returns-in-Ok-eq0-2-clause-cut : goal.returns-in-Ok-eq0-2-clause-cut
returns-in-Ok-eq0-2-clause-cut g c = λ _.
    cut c.args.bytes.now c.loop-sent.sent c.loop-sent-test.true c.loop-sent.invariant.chain
    (record { appended = search rules; called = c.write.ensures.calls; how = search rules })
