pub mod NetworkLinkMeets
