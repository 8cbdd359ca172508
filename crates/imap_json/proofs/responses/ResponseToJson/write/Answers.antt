use Rattle.imap_json.proofs.responses.ResponseToJson.write.Goals as goal

pub returns-in-Continue : goal.returns-in-Continue
returns-in-Continue c = rw c.in-Continue.is c.of_one-in-Continue.ensures

pub returns-in-Data : goal.returns-in-Data
returns-in-Data c = rw c.in-Data.is c.of_two.ensures

pub returns-in-Quota : goal.returns-in-Quota
returns-in-Quota c = rw c.in-Quota.is c.of_one-in-Quota.ensures

pub returns-in-QuotaRoot : goal.returns-in-QuotaRoot
returns-in-QuotaRoot c = rw c.in-QuotaRoot.is c.of_one-in-QuotaRoot.ensures

pub returns-in-Acl : goal.returns-in-Acl
returns-in-Acl c = rw c.in-Acl.is c.of_one-in-Acl.ensures
