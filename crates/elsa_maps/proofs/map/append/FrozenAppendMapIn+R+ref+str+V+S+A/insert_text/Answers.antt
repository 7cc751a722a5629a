use Rattle.elsa_maps.proofs.map.append.FrozenAppendMapIn+R+ref+str+V+S+A.insert_text.Goals as goal

-- The query finds the keys that are the same text.
pub returns-clause-present : goal.returns-clause-present
returns-clause-present g c = rw (c.self.view_is) at c.insert_kept.ensures.present

pub returns-clause-added : goal.returns-clause-added
returns-clause-added g c = rw (c.self.view_is) at c.insert_kept.ensures.added

pub returns-clause-refused : goal.returns-clause-refused
returns-clause-refused g c = rw (c.self.view_is) at c.insert_kept.ensures.refused
