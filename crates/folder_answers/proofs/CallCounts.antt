-- How often the desk is called.
use Rattle.std.proofs.Common.{◌≡◌, ℕ, zero, suc, ◌+◌, ◌<◌, ◌≤◌, Option, refl, ap, ◌∙◌, arith}
use Rattle.plan_desk.specs.Counts.{CallsAtMost, more_times, once_more}

-- one call after n of them
pub after_one_more : (n : ℕ) (before mid now : Option ℕ) → mid ≡ more_times n before → now ≡ once_more mid → now ≡ more_times (n + 1) before
after_one_more n before mid now so_far one = let next : suc n ≡ n + 1 = omega arith in one ∙ ap (λ c. once_more c) so_far ∙ ap (λ k. more_times k before) next

-- calls after calls
times_after : (m n : ℕ) (count : Option ℕ) → more_times m (more_times n count) ≡ more_times (m + n) count
times_after zero n count = let same : n ≡ 0 + n = omega arith in ap (λ k. more_times k count) same
times_after (suc m) n count = let next : suc (m + n) ≡ suc m + n = omega arith in ap (λ c. once_more c) (times_after m n count) ∙ ap (λ k. more_times k count) next

module _ (before mid now : Option ℕ) where
  -- n calls, and then one more
  pub one_more_call : (n most : ℕ) → n < most → mid ≡ more_times n before → now ≡ once_more mid → CallsAtMost most before now
  one_more_call n most below so_far one = record { calls = n + 1; within = omega arith; made = after_one_more n before mid now so_far one }

  -- so many at most, and then so many more at most
  pub calls_then : (first more most : ℕ) → first + more ≤ most → CallsAtMost first before mid → CallsAtMost more mid now → CallsAtMost most before now
  calls_then first more most within one two =
      let w = one.within in
      let v = two.within in
      record { calls = two.calls + one.calls; within = omega arith; made = two.made ∙ ap (λ c. more_times two.calls c) one.made ∙ times_after two.calls one.calls before }

  pub then_one : (first most : ℕ) → first < most → CallsAtMost first before mid → now ≡ once_more mid → CallsAtMost most before now
  then_one first most within one two = let w = one.within in one_more_call one.calls most (omega arith) one.made two

pub weaker_calls : (before now : Option ℕ) (few most : ℕ) → few ≤ most → CallsAtMost few before now → CallsAtMost most before now
weaker_calls before now few most less calls = let w = calls.within in record { calls = calls.calls; within = omega arith; made = calls.made }

-- no call
pub no_calls : (most : ℕ) (now : Option ℕ) → CallsAtMost most now now
no_calls most now = record { calls = 0; within = omega arith; made = refl }
