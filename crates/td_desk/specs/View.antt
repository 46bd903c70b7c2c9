-- What contracts see of a desk, and what a crash leaves of it.
use Rattle.std.specs.Prelude.{◌≡◌, ◌⊎◌, Option}
use Rattle.td_commands.specs.declared.command.Stamped.{Stamped}
use Rattle.td_desk.specs.declared.fault.Fault.{Fault}
use Rattle.td_model.specs.Content.{Content}

pub record DeskView (D : Type 0) : Type 1 where
  -- its country and rows
  pub content : D → Content
  -- the disk under it, if any, returned what was written, and nobody else wrote
  pub is_clean : D → Type 0
  -- No fault has shut it. The content of a desk that is shut says nothing, and it answers nothing any more.
  pub is_live : D → Type 0
  -- a store stands behind it
  pub has_store : Type 0
  -- the next opening, after a crash at this moment, may find a desk of this content
  pub may_leave : D → Content → Type 0
  -- it finds a desk, whatever the crash leaves
  pub recovers : D → Type 0
  -- the command was weighed: that took it from one state to the other, and ended by this fault, or by none
  pub weighed : D → Stamped → Option Fault → D → Type 0
  -- the decision that was weighed last was carried, and that ended so
  pub carried : D → Option Fault → D → Type 0

-- whatever a crash leaves at this moment is a desk of this content
pub record LeavesOnly {D : Type 0} (view : DeskView D) (d : D) (c : Content) : Type 0 where
  pub only : (x : Content) → view.may_leave d x → x ≡ c
  pub recovers : view.recovers d

-- to what a crash could leave at first, no contents were added but these, and each is still a desk's
pub record AddsAtMost {D : Type 0} (view : DeskView D) (added : Content → Type 0) (old new : D) : Type 0 where
  pub outcomes : (x : Content) → view.may_leave new x → view.may_leave old x ⊎ added x
  pub recovers : view.recovers old → view.recovers new

-- while it is live, a crash leaves its content alone
abbrev pub IsSettled : {D : Type 0} → DeskView D → D → Type 0
IsSettled view d = view.is_live d → LeavesOnly view d (view.content d)
