use Rattle.std.proofs.Common.{inl, refl, rules}
use Rattle.http_wire.specs.Wire.{asked}
use Rattle.td_http.specs.Serving.{command_in}
use Rattle.td_http.proofs.Alone.{handled_alone}
use Rattle.td_http.proofs.Handling.{unread_handled, unread_left, unread_stores_nothing, unread_unasked}
use Rattle.td_http.proofs.service.Service.handle.Goals as goal

pub returns-in-Err-clause-handled : goal.returns-in-Err-clause-handled
returns-in-Err-clause-handled g c = record {
  clean = λ clean. clean;
  live = λ clean live. live;
  handled = λ clean. unread_handled (g.D.Desk.seen.is_live c.args.self.now.desk) (g.D.Desk.seen.is_live c.args.self.now.desk) (g.D.Desk.seen.content c.args.self.now.desk) c.args.at (command_in (asked c.args.request.now)) c.args.request.now.close c.in-Err.fault c.reply_to_unread.result c.in-Err.ensures c.reply_to_unread.ensures.memory c.reply_to_unread.ensures.told;
  stays = λ clean live other. live;
  unasked = λ why bad. refl;
  calls = λ command is. inl (refl, unread_unasked (command_in (asked c.args.request.now)) c.in-Err.fault c.reply_to_unread.result command c.in-Err.ensures c.reply_to_unread.ensures.memory is);
  unstored = λ why bad h. absurd (unread_stores_nothing c.in-Err.fault c.args.request.now.close c.reply_to_unread.result c.reply_to_unread.ensures.told h);
  crash = λ command is clean. unread_left g.D.Desk.seen c.args.self.now.desk (record { at = c.args.at; command = command }) (command_in (asked c.args.request.now))
      c.in-Err.fault c.reply_to_unread.result command c.in-Err.ensures c.reply_to_unread.ensures.memory is;
  settled = λ clean before. before;
  store = λ h. absurd (unread_stores_nothing c.in-Err.fault c.args.request.now.close c.reply_to_unread.result c.reply_to_unread.ensures.told h);
}

pub returns-in-Err-clause-alone : goal.returns-in-Err-clause-alone
returns-in-Err-clause-alone g c = handled_alone g.D.Desk.seen _ c.args.at _ _ _ (returns-in-Err-clause-handled g c)

pub returns-in-Ok-clause-handled : goal.returns-in-Ok-clause-handled
returns-in-Ok-clause-handled g c = search rules

pub returns-in-Ok-clause-alone : goal.returns-in-Ok-clause-alone
returns-in-Ok-clause-alone g c = handled_alone g.D.Desk.seen _ c.args.at _ _ _ (returns-in-Ok-clause-handled g c)
